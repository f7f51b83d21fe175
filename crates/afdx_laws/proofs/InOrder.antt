-- Fragments in order complete their datagrams in order, and need one buffer.
use Rattle.afdx_laws.proofs.Names.{◌≡◌, ℕ, zero, suc, ◌+◌, ◌%◌, ◌≤◌, ◌<◌, inl, inr, true, nat_eq, List, [], ◌∷◌, ◌++◌, length, map, take, refl, ap, sym, ◌∙◌, arith, All, Some, None, nat_tests, cases_lt, cases_Bool, append_assoc, length-append, length-map, identification, pieces_from, cutting_some, Fragment, Buffer, empty, put, put_all, datagram_in, fragment_of, fragments_of, IsPrefixOf, with_buffer, kept_in, delivered, of_sub, keyed, sent_from, HasByte, AreGiven, InOrder, buffers_after, any_order_holds}
use Rattle.afdx_laws.proofs.ListLemmas.{cons_parts, nil_begins}

-- buffers are the same for a sub-VL
abbrev pub AreSame : ℕ → (ℕ → Buffer) → (ℕ → Buffer) → Type 0
AreSame sub xs ys = (k : ℕ) → k % 4 ≡ sub → xs k ≡ ys k

-- a sub-VL's datagrams and buffers are those of its fragments alone
pub record IsApart (sub : ℕ) (es : List (ℕ × Fragment)) (xs ys : ℕ → Buffer) : Type 0 where
  pub given : of_sub sub (delivered xs es) ≡ delivered ys (of_sub sub es)
  pub buffers : AreSame sub (buffers_after xs es) (buffers_after ys (of_sub sub es))

pub apart : (sub : ℕ) (es : List (ℕ × Fragment)) (xs ys : ℕ → Buffer) → AreSame sub xs ys → IsApart sub es xs ys
apart sub [] xs ys same = grind arith
apart sub (e ∷ es) xs ys same = elim (cases_Bool (nat_eq (e.0 % 4) sub)) [
  | inl is ↦
      let b : Buffer = put (ys e.0) e.1 in
      let rest = apart sub es (with_buffer e.0 (kept_in b (datagram_in b)) xs)
      (with_buffer e.0 (kept_in b (datagram_in b)) ys) (grind arith) in
      (grind arith)
  | inr isnt ↦
      let b : Buffer = put (xs e.0) e.1 in
      grind (arith, apart sub es (with_buffer e.0 (kept_in b (datagram_in b)) xs) ys (grind arith))
]

-- all but the last say that more follow
abbrev pub IsBlock : List Fragment → Type 0
IsBlock [] = ⊥
IsBlock (f ∷ []) = Unit {0}
IsBlock (f ∷ g ∷ rest) = (f.more ≡ true) × IsBlock (g ∷ rest)

is_block : (d : List ℕ) (start : ℕ) (lens : List ℕ) → 0 < length lens → IsBlock (map (fragment_of d) (pieces_from start lens))
is_block d start [] some = absurd (omega arith)
is_block d start (len ∷ []) some = tt
is_block d start (len ∷ next ∷ lens) some = (grind arith, is_block d (start + len) (next ∷ lens) (omega arith))

-- the first fragment of a datagram, and those after it
record Begins (fs : List Fragment) : Type 0 where
  pub first : Fragment
  pub behind : List Fragment
  pub is : fs ≡ first ∷ behind
  pub chain : IsBlock (first ∷ behind)

begins : (room : ℕ) (d : List ℕ) → 1 ≤ length d → Begins (fragments_of room d)
begins room d some =
    first (fragments_of room d) (grind (arith, is_block, cutting_some))
  where
    first : (fs : List Fragment) → IsBlock fs → Begins fs
    first [] b = absurd b
    first (f ∷ fs) b = (grind arith)

put_more : (fs : List Fragment) (b : Buffer) (f : Fragment) → put_all b (fs ++ f ∷ []) ≡ put (put_all b fs) f
put_more [] b f = refl
put_more (g ∷ fs) b f = put_more fs (put b g) f

-- of the buffers of a sub-VL all but one are empty
pub record IsAlone (sub : ℕ) (buffers : ℕ → Buffer) : Type 0 where
  pub key : ℕ
  pub others : (k : ℕ) → k % 4 ≡ sub → (k ≡ key → ⊥) → buffers k ≡ empty

-- What is given of the datagrams from a place on, if all but `left` fragments of the first came before: the first ones,
-- and all whose fragments came.
record DeliversFrom (room sub place left : ℕ) (buffers : ℕ → Buffer) (came : List (ℕ × Fragment)) (d : List ℕ)
    (later : List (List ℕ)) : Type 0 where
  pub many : ℕ
  pub are : map (λ (e : ℕ × List ℕ). e.1) (delivered buffers came) ≡ take many (d ∷ later)
  pub all : (j : ℕ) → j ≤ length later → left + length (sent_from room sub (suc place) (take j later)) ≤ length came → j < many
  pub alone : IsAlone sub (buffers_after buffers came)

-- what a state keeps: this datagram's buffer holds what came of it, each other buffer is empty
abbrev HoldsSoFar : ℕ → ℕ → (ℕ → Buffer) → List Fragment → Type 0
HoldsSoFar sub key buffers done = (buffers key ≡ put_all empty done)
    × ((k : ℕ) → k % 4 ≡ sub → (k ≡ key → ⊥) → buffers k ≡ empty)

all_empty : (sub key : ℕ) (buffers : ℕ → Buffer) → ((k : ℕ) → k % 4 ≡ sub → (k ≡ key → ⊥) → buffers k ≡ empty)
    → (k : ℕ) → k % 4 ≡ sub → with_buffer key empty buffers k ≡ empty
all_empty sub key buffers others k is = grind arith

-- datagrams of which all fragments came, by those of which all but the first one's came
all_more : (room sub place n many : ℕ) (d : List ℕ) (later : List (List ℕ)) (block : Begins (fragments_of room d))
    → ((i : ℕ) → i ≤ length later → suc (length block.behind) + length (sent_from room sub (suc place) (take i later)) ≤ n → i < many)
    → (j : ℕ) → j ≤ length (d ∷ later) → length (sent_from room sub place (take j (d ∷ later))) ≤ n → j ≤ many
all_more room sub place n many d later block each zero few enough = omega arith
all_more room sub place n many d later block each (suc i) few enough = grind (arith, length-append, length-map)

completes : (b : Buffer) (f : Fragment) (room : ℕ) (done : List Fragment) (d : List ℕ) → 8 ≤ room → 1 ≤ length d
    → fragments_of room d ≡ done ++ f ∷ [] → b ≡ put_all empty done → datagram_in (put b f) ≡ Some d
completes b f room done d least some split holds =
    ap datagram_in (ap (λ (c : Buffer). put c f) holds ∙ sym (put_more done empty f) ∙ ap (put_all empty) (sym split))
    ∙ any_order_holds room d (fragments_of room d) least some (λ f. ((λ c. c), (λ c. c)))

-- from any place on, by induction over what comes
goes : (came : List (ℕ × Fragment)) (room sub place : ℕ) (buffers : ℕ → Buffer) (done : List Fragment)
    (f : Fragment) (todo : List Fragment) (d : List ℕ) (later : List (List ℕ)) (rest : List (ℕ × Fragment))
    → 8 ≤ room → sub < 4 → All HasByte (d ∷ later) → fragments_of room d ≡ done ++ f ∷ todo → IsBlock (f ∷ todo)
    → (buffers (identification place sub)).total ≡ None → HoldsSoFar sub (identification place sub) buffers done
    → keyed (identification place sub) (f ∷ todo) ++ sent_from room sub (suc place) later ≡ came ++ rest
    → DeliversFrom room sub place (suc (length todo)) buffers came d later
goes [] room sub place buffers done f todo d later rest least small some split block none holds is = record {
  many = 0;
  are = refl;
  all = grind arith;
  alone = record { key = identification place sub; others = holds.1 };
}
goes (c ∷ came) room sub place buffers done f (next ∷ todo) d later rest least small some split block none holds is =
    let heads = cons_parts is in
    let k : ℕ = identification place sub in
    let b : Buffer = put (buffers k) f in
    let more = goes came room sub place (with_buffer k b buffers)
    (done ++ f ∷ []) next todo d later rest least small some
    (grind (arith, append_assoc)) block.1
    (grind (arith, nat_tests)) (
    grind (arith, put_more, nat_tests)
    ) heads.1 in
    rw (← heads.0) (grind arith)
goes (c ∷ []) room sub place buffers done f [] d [] rest least small some split block none holds is =
    let whole = completes (buffers (identification place sub)) f room done d least (some 0 d (omega arith)) split
    holds.0 in
    rw (← (cons_parts is).0) (record {
      many = 1;
      are = rw whole refl;
      all = λ j few enough. omega arith;
      alone = grind arith;
    })
goes (c ∷ x ∷ came) room sub place buffers done f [] d [] rest least small some split block none holds is = grind arith
goes (c ∷ came) room sub place buffers done f [] d (e ∷ later) rest least small some split block none holds is =
    let heads = cons_parts is in
    let k : ℕ = identification place sub in
    let whole = completes (buffers k) f room done d least (some 0 d (omega arith)) split holds.0 in
    let empties = all_empty sub k buffers holds.1 in
    let block_e = begins room e (some 1 e (omega arith)) in
    let key_e : ℕ = identification (suc place) sub in
    let own : key_e % 4 ≡ sub = omega arith in
    let more = goes came room sub (suc place) (with_buffer k empty buffers) [] block_e.first block_e.behind e later
    rest least small (λ i x h. some (suc i) x (omega arith)) block_e.is block_e.chain
    (grind arith)
    (empties key_e own, λ m is_m ne. empties m is_m) (grind arith) in
    rw (← heads.0) (record {
      many = suc more.many;
      are = grind arith;
      all = λ j few enough.
          let got = all_more room sub (suc place) (length came) more.many e later block_e more.all j few
          (omega arith) in
          omega arith;
      alone = rw whole more.alone;
    })

pub record Reassembles (room sub : ℕ) (datagrams : List (List ℕ)) (came : List (ℕ × Fragment)) : Type 0 where
  pub given : AreGiven room sub datagrams came
  pub alone : IsAlone sub (buffers_after (λ key. empty) came)

none_sent : (room sub : ℕ) (datagrams : List (List ℕ)) → All HasByte datagrams → (j : ℕ) → j ≤ length datagrams
    → length (sent_from room sub 0 (take j datagrams)) ≤ 0 → j ≤ 0
none_sent room sub [] some j few none = few
none_sent room sub (d ∷ later) some j few none =
    all_more room sub 0 0 0 d later (begins room d (some 0 d (omega arith)))
    (grind arith) j few none

nothing : (room sub : ℕ) (datagrams : List (List ℕ)) (came : List (ℕ × Fragment)) → All HasByte datagrams → of_sub sub came ≡ []
    → Reassembles room sub datagrams came
nothing room sub datagrams came some none =
    let own = apart sub came (λ key. empty) (λ key. empty) (λ k h. refl) in
    grind (arith, none_sent)

-- no identification is of a sub-VL past the fourth
none_past : (sub : ℕ) (es : List (ℕ × Fragment)) → 4 ≤ sub → of_sub sub es ≡ []
none_past sub [] past = refl
none_past sub (e ∷ es) past = grind (arith, nat_tests, none_past sub es past)

below : (room sub : ℕ) (datagrams : List (List ℕ)) (came : List (ℕ × Fragment)) → 8 ≤ room → sub < 4
    → All HasByte datagrams → IsPrefixOf (of_sub sub came) (sent_from room sub 0 datagrams) → Reassembles room sub datagrams came
below room sub [] came least small some begun = nothing room sub [] came some (nil_begins (of_sub sub came) begun.0 begun.1)
below room sub (d ∷ later) came least small some (rest, begun) =
    let block = begins room d (some 0 d (omega arith)) in
    let own = apart sub came (λ key. empty) (λ key. empty) (λ k h. refl) in
    let got = goes (of_sub sub came) room sub 0 (λ key. empty) [] block.first block.behind d later rest least small some
    block.is block.chain refl (refl, λ k h ne. refl)
    (grind arith) in
    record {
      given = (got.many, grind arith, all_more room sub 0 (length (of_sub sub came)) got.many d later block got.all);
      alone = grind arith;
    }

pub reassembles : (room sub : ℕ) (datagrams : List (List ℕ)) (came : List (ℕ × Fragment)) → 8 ≤ room
    → All HasByte datagrams → IsPrefixOf (of_sub sub came) (sent_from room sub 0 datagrams) → Reassembles room sub datagrams came
reassembles room sub datagrams came least some begun = elim (cases_lt sub 4) [
  | inl small ↦ below room sub datagrams came least small some begun
  | inr past ↦ nothing room sub datagrams came some (none_past sub came past)
]

pub in_order_holds : InOrder
in_order_holds room sub datagrams came least some begun = (reassembles room sub datagrams came least some begun).given
