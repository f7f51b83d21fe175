-- Twins wanted: a frame whose twin is wanted waits until it meets the twin. If its wait ends otherwise, it is a finding.
use Rattle.afdx_laws.proofs.JudgeNames.{A, B, Bool, Contains, List, Net, None, VlId, none_both, Option, Options, Some, Span, Tag, Times, Wait, ap, arith, cases_Bool, drop, drop-set, drop_more, false, filter, find, first_other, get_or, inl, inr, interface_byte, is_heard_after, is_heard_before, length, length-drop, lt-ltb, missing_of, nat_tests, nearness_of, other_span, position_or_len, refl, remove, same_net, slice_index, slice_range, span_with, subst, suc, sym, take, take-append-drop, take-set, take_all, times_with, true, twin_of, twin_other, zero, ℕ, [], ◌*◌, ◌++◌, ◌+◌, ◌-◌, ◌<◌, ◌∙◌, ◌∷◌, ◌≡◌, ◌≤◌, ◌⊎◌}

-- ---- elements

-- an element of a list
abbrev pub IsIn : {X : Type 0} → X → List X → Type 0
IsIn x [] = ⊥
IsIn x (y ∷ ys) = (y ≡ x) ⊎ IsIn x ys

pub in_contains : {X : Type 0} (x : X) (xs : List X) → IsIn x xs → Contains xs x
in_contains x [] is = absurd is
in_contains x (y ∷ ys) (inl same) = (0, omega arith, same)
in_contains x (y ∷ ys) (inr is) =
    let behind = in_contains x ys is in (suc behind.0, omega (arith, behind.1), behind.2)

in_at : {X : Type 0} (x : X) (xs : List X) (i : ℕ) → i < length xs → get_or xs i x ≡ x → IsIn x xs
in_at x [] i inside is = absurd (omega arith)
in_at x (y ∷ ys) zero inside is = inl is
in_at x (y ∷ ys) (suc i) inside is = inr (in_at x ys i (omega arith) is)

pub contains_in : {X : Type 0} (x : X) (xs : List X) → Contains xs x → IsIn x xs
contains_in x xs is = in_at x xs is.0 is.1 is.2

pub in_kept : {X : Type 0} (p : X → Bool) (x : X) (xs : List X) → IsIn x xs → p x ≡ true → IsIn x (filter p xs)
in_kept p x [] is passes = absurd is
in_kept p x (y ∷ ys) (inl same) passes = rw (same, passes) (inl refl)
in_kept p x (y ∷ ys) (inr is) passes = elim (cases_Bool (p y)) [
  | inl good ↦ rw good (inr (in_kept p x ys is passes))
  | inr bad ↦ rw bad (in_kept p x ys is passes)
]

pub in_whole : {X : Type 0} (p : X → Bool) (x : X) (xs : List X) → IsIn x (filter p xs) → IsIn x xs
in_whole p x [] is = is
in_whole p x (y ∷ ys) is = elim (cases_Bool (p y)) [
  | inl good ↦ elim (rw good at is) [ inl same ↦ inl same | inr behind ↦ inr (in_whole p x ys behind) ]
  | inr bad ↦ inr (in_whole p x ys (rw bad at is))
]

pub in_front : {X : Type 0} (x : X) (xs ys : List X) → IsIn x xs → IsIn x (xs ++ ys)
in_front x [] ys is = absurd is
in_front x (y ∷ xs) ys (inl same) = inl same
in_front x (y ∷ xs) ys (inr is) = inr (in_front x xs ys is)

pub in_back : {X : Type 0} (x : X) (xs ys : List X) → IsIn x ys → IsIn x (xs ++ ys)
in_back x [] ys is = is
in_back x (y ∷ xs) ys is = inr (in_back x xs ys is)

pub in_parts : {X : Type 0} (x : X) (xs ys : List X) → IsIn x (xs ++ ys) → IsIn x xs ⊎ IsIn x ys
in_parts x [] ys is = inr is
in_parts x (y ∷ xs) ys (inl same) = inl (inl same)
in_parts x (y ∷ xs) ys (inr is) = elim (in_parts x xs ys is) [ inl front ↦ inl (inr front) | inr back ↦ inr back ]

remove_later : {X : Type 0} (z : X) (zs : List X) (n : ℕ) → remove (z ∷ zs) (1 + n) ≡ z ∷ remove zs n
remove_later z zs n = let next : 1 + n ≡ suc n = omega arith in rw next refl

removed_is : {X : Type 0} (p : X → Bool) (z : X) (zs : List X) → p z ≡ false
    → remove (z ∷ zs) (position_or_len p (z ∷ zs)) ≡ z ∷ remove zs (position_or_len p zs)
removed_is p z zs bad = rw bad (remove_later z zs (position_or_len p zs))

-- the first that passes is removed, and no other
pub in_left : {X : Type 0} (p : X → Bool) (x y : X) (xs : List X) → find p xs ≡ Some y → IsIn x xs
    → (y ≡ x) ⊎ IsIn x (remove xs (position_or_len p xs))
in_left p x y [] found is = absurd is
in_left p x y (z ∷ zs) found is = elim (cases_Bool (p z)) [
  | inl good ↦
      let first : z ≡ y = cc (rw good at found) in
      elim is [ inl same ↦ inl (sym first ∙ same) | inr behind ↦ inr (rw good behind) ]
  | inr bad ↦ elim is [
    | inl same ↦ inr (subst (IsIn x) (sym (removed_is p z zs bad)) (inl same))
    | inr behind ↦ elim (in_left p x y zs (rw bad at found) behind) [
      | inl same ↦ inl same
      | inr left ↦ inr (subst (IsIn x) (sym (removed_is p z zs bad)) (inr left))
    ]
  ]
]

pub in_before : {X : Type 0} (p : X → Bool) (x y : X) (xs : List X) → find p xs ≡ Some y
    → IsIn x (remove xs (position_or_len p xs)) → IsIn x xs
in_before p x y [] found is = cc
in_before p x y (z ∷ zs) found is = elim (cases_Bool (p z)) [
  | inl good ↦ inr (rw good at is)
  | inr bad ↦ by (in_before p x y zs (rw bad at found)) (subst (IsIn x) (removed_is p z zs bad) is)
]
  where
    by : (IsIn x (remove zs (position_or_len p zs)) → IsIn x zs) → (z ≡ x) ⊎ IsIn x (remove zs (position_or_len p zs)) → (z ≡ x) ⊎ IsIn x zs
    by later (inl same) = inl same
    by later (inr behind) = inr (later behind)

-- the one that is found is an element, and passes
pub found_in : {X : Type 0} (p : X → Bool) (y : X) (xs : List X) → find p xs ≡ Some y → IsIn y xs × (p y ≡ true)
found_in p y [] found = cc
found_in p y (z ∷ zs) found = elim (cases_Bool (p z)) [
  | inl good ↦ let first : z ≡ y = cc (rw good at found) in (inl first, rw (← first) good)
  | inr bad ↦ let behind = found_in p y zs (rw bad at found) in (inr behind.0, behind.1)
]

-- none passes
pub fails_in : {X : Type 0} (p : X → Bool) (x : X) (xs : List X) → filter p xs ≡ [] → IsIn x xs → p x ≡ false
fails_in p x [] none is = absurd is
fails_in p x (y ∷ ys) none is = elim (cases_Bool (p y)) [
  | inl good ↦ absurd (cc (rw good at none))
  | inr bad ↦ elim is [ inl same ↦ rw (← same) bad | inr behind ↦ fails_in p x ys (rw bad at none) behind ]
]

pub none_told : (vl : VlId) (ws : List Wait) → missing_of vl ws ≡ [] → ws ≡ []
none_told vl [] none = refl
none_told vl (w ∷ ws) none = absurd (cc (none))

-- ---- times

-- the other network than this one was recorded from before a time until after it
pub record IsHeard (net : Net) (at : ℕ) (times : Times) : Type 0 where
  pub span : Span
  pub is : other_span net times ≡ Some span
  pub first : span.earliest ≤ at
  pub last : at ≤ span.latest

span_more : (at now : ℕ) (span : Span) → span.earliest ≤ at → at ≤ span.latest
    → ((span_with now (Some span)).earliest ≤ at) × (at ≤ (span_with now (Some span)).latest)
span_more at now span first last = grind (arith, nat_tests)

span_own : (at : ℕ) (span : Option Span) → ((span_with at span).earliest ≤ at) × (at ≤ (span_with at span).latest)
span_own at None = (omega arith, omega arith)
span_own at (Some span) = grind (arith, nat_tests)

pub heard_on : (net m : Net) (at now : ℕ) (times : Times) → IsHeard net at times → IsHeard net at (times_with m now times)
heard_on A A at now times heard = record { span = heard.span; is = heard.is; first = heard.first; last = heard.last }
heard_on B B at now times heard = record { span = heard.span; is = heard.is; first = heard.first; last = heard.last }
heard_on A B at now times heard =
    let more = span_more at now heard.span heard.first heard.last in
    record { span = span_with now (Some heard.span); is = ap (λ (s : Option Span). Some (span_with now s)) heard.is; first = more.0; last = more.1 }
heard_on B A at now times heard =
    let more = span_more at now heard.span heard.first heard.last in
    record { span = span_with now (Some heard.span); is = ap (λ (s : Option Span). Some (span_with now s)) heard.is; first = more.0; last = more.1 }

pub heard_now : (net m : Net) (at : ℕ) (times : Times) → same_net m net ≡ false → IsHeard net at (times_with m at times)
heard_now A A at times apart = absurd (cc (apart))
heard_now B B at times apart = absurd (cc (apart))
heard_now A B at times apart =
    let own = span_own at times.b in record { span = span_with at times.b; is = refl; first = own.0; last = own.1 }
heard_now B A at times apart =
    let own = span_own at times.a in record { span = span_with at times.a; is = refl; first = own.0; last = own.1 }

pub heard_before : (options : Options) (times : Times) (tag : Tag) (at : ℕ) → IsHeard tag.net at times → at + 1000 * options.skew < tag.at
    → is_heard_before (nearness_of options times) tag ≡ true
heard_before options times tag at heard earlier = rw heard.is (lt-ltb _ _ (omega (arith, heard.first)))

pub heard_after : (options : Options) (times : Times) (tag : Tag) (at : ℕ) → IsHeard tag.net at times → tag.at + 1000 * options.skew < at
    → is_heard_after (nearness_of options times) tag ≡ true
heard_after options times tag at heard later = rw heard.is (lt-ltb _ _ (omega (arith, heard.last)))

-- ---- bytes

first_same : (i : ℕ) (xs ys : List ℕ) → first_other i xs ys ≡ None → xs ≡ ys
first_same i [] [] none = refl
first_same i [] (y ∷ ys) none = absurd (cc (none))
first_same i (x ∷ xs) [] none = absurd (cc (none))
first_same i (x ∷ xs) (y ∷ ys) none = grind (arith, nat_tests, first_same (i + 1) xs ys)

-- frames that differ in byte 11 alone
pub record AreAlike (a b : List ℕ) : Type 0 where
  pub front : take 11 a ≡ take 11 b
  pub back : drop 12 a ≡ drop 12 b

back_is : (xs : List ℕ) → slice_range xs 12 (length xs) ≡ drop 12 xs
back_is xs = take_all (length xs - 12) (drop 12 xs) (omega (arith, length-drop 12 xs))

pub alike : (a b : List ℕ) → twin_other a b ≡ None → AreAlike a b
unfolding twin_other
alike a b none =
    let parts : (first_other 0 (slice_range a 0 11) (slice_range b 0 11) ≡ None)
    × (first_other 12 (slice_range a 12 (length a)) (slice_range b 12 (length b)) ≡ None) = none_both _ _ none in
    record {
      front = first_same 0 (slice_range a 0 11) (slice_range b 0 11) parts.0;
      back = sym (back_is a) ∙ first_same 12 (slice_range a 12 (length a)) (slice_range b 12 (length b)) parts.1 ∙ back_is b;
    }

pub alike_back : (a b : List ℕ) → AreAlike a b → AreAlike b a
alike_back a b is = record { front = sym is.front; back = sym is.back }

-- one is the other's twin
pub alike_twin : (net : Net) (a b : List ℕ) → AreAlike a b → 60 ≤ length a → 60 ≤ length b → slice_index b 11 ≡ interface_byte net
    → b ≡ twin_of net a
alike_twin net a b is long_a long_b byte =
    sym (take-append-drop 11 b) ∙ rw (
      ← take-append-drop 11 (twin_of net a),
      take-set a 11 (interface_byte net),
      drop-set a 11 (interface_byte net) (omega arith),
      drop_more b 11 0 (omega arith),
      byte,
      is.front,
      is.back,
    ) refl
