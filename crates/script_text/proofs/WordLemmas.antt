-- Words, the blanks between them, and digits that follow.
use Rattle.script_text.proofs.Names.{◌≡◌, ℕ, ◌<◌, ◌≤◌, true, false, List, [], ◌∷◌, length, take, drop, get_or, refl, suc, zero, ◌∙◌, arith, filter, length-take, length-drop, add-zero, ◌+◌, ◌-◌, ◌*◌, slice_split, get_or-drop, drop_more, drop_all, is_blank, is_some_text, read_on, is_numeral, Some, None}
use Rattle.script_text.specs.Command.{words_of, number_of}

-- blanks in front make no word
skip_front : (line : List ℕ) (n : ℕ) → ((k : ℕ) → k < n → is_blank (get_or line k 0) ≡ true)
    → words_of line ≡ words_of (drop n line)
unfolding words_of
skip_front line zero h = refl
skip_front [] (suc n) h = refl
skip_front (x ∷ xs) (suc n) h =
    let first : is_blank x ≡ true = h 0 (omega arith) in
    rw first (skip_front xs n (λ k lt. h (suc k) (omega arith)))

-- a text of `m` bytes before its first blank, and the parts that follow
record FirstPart (text : List ℕ) (m : ℕ) : Type 0 where
  others : List (List ℕ)
  is : slice_split is_blank text ≡ take m text ∷ others
  words : filter is_some_text others ≡ words_of (drop m text)

first_part : (text : List ℕ) (m : ℕ) → m ≤ length text → ((k : ℕ) → k < m → is_blank (get_or text k 0) ≡ false)
    → (m < length text → is_blank (get_or text m 0) ≡ true) → FirstPart text m
unfolding words_of
first_part [] zero le h gap = grind arith
first_part [] (suc m) le h gap = absurd (omega arith)
first_part (x ∷ xs) zero le h gap =
    let blank : is_blank x ≡ true = gap (omega arith) in
    record { others = slice_split is_blank xs; is = rw blank refl; words = rw blank refl }
first_part (x ∷ xs) (suc m) le h gap =
    let first : is_blank x ≡ false = h 0 (omega arith) in
    let rest = first_part xs m (omega arith) (λ k lt. h (suc k) (omega arith)) (λ lt. gap (omega arith)) in
    grind arith

-- nothing but blanks
pub next_none : (line text : List ℕ) (n : ℕ) → text ≡ drop n line
    → ((k : ℕ) → k < n → is_blank (get_or line k 0) ≡ true) → length text ≡ 0 → words_of line ≡ []
unfolding words_of
next_none line text n is blank none = skip_front line n blank ∙ rw (← is) (no_words text none)
  where
    no_words : (xs : List ℕ) → length xs ≡ 0 → words_of xs ≡ []
    no_words [] e = refl
    no_words (x ∷ xs) e = absurd (omega arith)

-- blanks, and then a word
pub next_some : (line text word rest : List ℕ) (n m : ℕ) → text ≡ drop n line
    → ((k : ℕ) → k < n → is_blank (get_or line k 0) ≡ true)
    → (n < length line → is_blank (get_or line n 0) ≡ false) → word ≡ take m text → rest ≡ drop m text
    → m ≤ length text → ((k : ℕ) → k < m → is_blank (get_or text k 0) ≡ false)
    → (m < length text → is_blank (get_or text m 0) ≡ true) → 0 < length text → words_of line ≡ word ∷ words_of rest
unfolding words_of
next_some line text word rest n m is blank found word_is rest_is le inside gap long =
    grind (arith, first_part text m le inside gap, get_or-drop n line 0 0, add-zero n, length-drop n line, length-take m text, skip_front)

-- more digits
pub read_on_le : (n : ℕ) (cs : List ℕ) → n ≤ read_on n cs
read_on_le n [] = omega arith
read_on_le n (c ∷ cs) = omega (arith, read_on_le (n * 10 + (c - 48)) cs)

-- one digit further
pub read_on_next : (n : ℕ) (w : List ℕ) (i : ℕ) → i < length w → read_on n (drop i w) ≡ read_on (n * 10 + (get_or w i 0 - 48)) (drop (i + 1) w)
read_on_next n w i h = rw (drop_more w i 0 h)

-- the number so far is no greater than the whole
pub too_great : (n most : ℕ) (w : List ℕ) (i : ℕ) → i < length w → most < n * 10 + (get_or w i 0 - 48) → most < read_on n (drop i w)
too_great n most w i h great = grind (arith, read_on_next, read_on_le)

-- a numeral in range
pub number_some : (most : ℕ) (w : List ℕ) (n : ℕ) → is_numeral w ≡ true → n ≡ read_on 0 w → n ≤ most → Some n ≡ number_of most w
unfolding number_of
number_some most w n is e h = grind arith

-- one that is too great
pub number_none : (most : ℕ) (w : List ℕ) → is_numeral w ≡ true → most < read_on 0 w → None ≡ number_of most w
unfolding number_of
number_none most w is h = grind arith

-- at the end the number is whole
pub read_on_end : (n : ℕ) (w : List ℕ) (i : ℕ) → length w ≤ i → read_on n (drop i w) ≡ n
read_on_end n w i h = rw (drop_all i w h)

-- what `number` needs of them
pub ruleset number_rules = (number_none, number_some, too_great, read_on_end)
