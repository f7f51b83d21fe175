-- Streams that are mapped, joined or grow: their elements, counts and turns; links on both networks.
use Rattle.std.proofs.Common.{ℕ, ◌≡◌, zero, suc, ◌+◌, ◌<◌, List, [], ◌∷◌, ◌++◌, nat_eq, length, map, get_or, arith, refl, ap, ◌∙◌, inl, inr, ◌-◌, ◌^◌, ◌≤◌, filter, le_refl, le_trans, zero-le, length-append, Option, Some, None, ◌≢◌, true, cond, ◌&&◌, Bool, false, subst, eqb, nat_le, sym}
use Rattle.std.specs.Prelude.{All}
use Rattle.std.proofs.lemmas.Bool.{cases_Bool, leb-true, eq-eqb, ne_eqb, cases_eq, and_from, and_left, and_right}
use Rattle.std.proofs.lemmas.List.Elements.{filter-append, All-cons, All-nil, All-tail}
use Rattle.afdx_plan.specs.Plan.{sequence_number, is_both}
use Rattle.afdx_plan.specs.declared.link_plan.LinkPlan.{LinkPlan}
use Rattle.afdx_frame.specs.declared.net.Net.{Net}
use Rattle.redundant_mux.specs.Lines.{Entry, side}
use Rattle.afdx_legal.specs.Streams.{those_with, IsNumbered, stamp_of, IsSpaced, latest, entry_number, IsApart, sub_stream, more_in, before_next, TakesTurns}
use Rattle.afdx_legal.specs.Legal.{IsKnown, AreKnown, is_on_both}
use Rattle.std.proofs.Math.Nat.{min-le_left, min-le_right, le-min}
use Rattle.std.proofs.lemmas.List.Sums.{sum_by-append}
use Rattle.vl_shaper.specs.declared.shaper.Stamp.{Stamp}
use Rattle.status_board.specs.Views.{NoFieldFalls}
use Rattle.afdx_legal.specs.Counting.{capped, bytes_in, ends_message, messages_ended, moment_after, counts_in}
use Rattle.std.proofs.lemmas.List.{append-nil, get_or_default}
use Rattle.vl_shaper.specs.Pace.{is_due, IsLater}
use Rattle.std.proofs.lemmas.List.Folds.{list_any_at, list_any_none}
use Rattle.afdx_plan.specs.declared.port_plan.VlId.{VlId}
use Rattle.afdx_plan.specs.Config.{Plan, IsPlan, link_plan_at}
use Rattle.afdx_frame.specs.Header.{sub_in}
use Rattle.afdx_frame.specs.Frame.{more_fragments}
use Rattle.afdx_frame.proofs.Twins.{twin_sub, twin_word}

pub with_append : {F : Type 0} (read : F → ℕ) (n : ℕ) (xs ys : List F)
    → those_with read n (xs ++ ys) ≡ those_with read n xs ++ those_with read n ys
with_append {F = F} read n xs ys = filter-append (λ (x : F). nat_eq (read x) n) xs ys

pub with_map : {X Y : Type 0} (of_x : X → ℕ) (of_y : Y → ℕ) (f : X → Y) (n : ℕ) → ((x : X) → of_y (f x) ≡ of_x x)
    → (xs : List X) → those_with of_y n (map f xs) ≡ map f (those_with of_x n xs)
with_map of_x of_y f n same [] = refl
with_map {Y = Y} of_x of_y f n same (x ∷ xs) = elim (cases_Bool (nat_eq (of_x x) n)) [
  | inl is ↦ rw (same x, is) (ap (λ (ys : List Y). f x ∷ ys) (with_map of_x of_y f n same xs))
  | inr isnt ↦ rw (same x, isnt) (with_map of_x of_y f n same xs)
]

pub numbered_at : {F : Type 0} (number : F → ℕ) (start : ℕ) (xs : List F) → IsNumbered number start xs → (i : ℕ) (spare : F)
    → i < length xs → number (get_or xs i spare) ≡ sequence_number (start + i)
numbered_at number start [] numbered i spare inside = absurd (omega arith)
numbered_at number start (x ∷ xs) numbered zero spare inside = numbered.0 ∙ ap sequence_number (omega arith)
numbered_at number start (x ∷ xs) numbered (suc i) spare inside =
    numbered_at number (start + 1) xs numbered.1 i spare (omega arith) ∙ ap sequence_number (omega arith)

pub numbered_map : {X Y : Type 0} (of_x : X → ℕ) (of_y : Y → ℕ) (f : X → Y) (start : ℕ) (xs : List X)
    → All (λ x. of_y (f x) ≡ of_x x) xs → IsNumbered of_x start xs → IsNumbered of_y start (map f xs)
numbered_map of_x of_y f start [] same numbered = tt
numbered_map of_x of_y f start (x ∷ xs) same numbered =
    (same 0 x (omega arith) ∙ numbered.0, numbered_map of_x of_y f (start + 1) xs (All-tail (λ z. of_y (f z) ≡ of_x z) x xs same) numbered.1)

pub known_all : (links : List LinkPlan) (net : Net) (es : List Entry) → AreKnown links net es
    → All (λ (e : Entry). IsKnown links net e.frame) es
known_all links net [] known = All-nil (λ (e : Entry). IsKnown links net e.frame)
known_all links net (e ∷ es) known =
    All-cons (λ (d : Entry). IsKnown links net d.frame) e es known.0 (known_all links net es known.1)

capped_mono : (m n : ℕ) → m ≤ n → capped m ≤ capped n
capped_mono m n up = le-min (le_trans (min-le_left m (2 ^ 64 - 1)) up) (min-le_right m (2 ^ 64 - 1))

bytes_more : (stream more : List Entry) → bytes_in stream ≤ bytes_in (stream ++ more)
bytes_more stream more =
    let both = sum_by-append (λ (e : Entry). length e.frame) stream more in omega arith

messages_more : (stream more : List Entry) → messages_ended stream ≤ messages_ended (stream ++ more)
messages_more stream more =
    let both : messages_ended (stream ++ more) ≡ messages_ended stream + messages_ended more =
    ap length (filter-append ends_message stream more)
    ∙ length-append (filter ends_message stream) (filter ends_message more) in
    omega arith

-- the time of the stamp, 0 if there is none
abbrev moment_of : Option Stamp → ℕ
moment_of None = 0
moment_of (Some stamp) = stamp.at

moment_later : (gap : ℕ) (before : Option Stamp) (more : List Entry) → IsSpaced gap before more
    → moment_of before ≤ moment_after (moment_of before) more
moment_later gap before [] spaced = le_refl _
moment_later gap None (e ∷ es) spaced = zero-le
moment_later gap (Some stamp) (e ∷ es) spaced =
    let apart = spaced.0 in
    let rest = moment_later gap (Some (stamp_of e)) es spaced.1 in omega arith

moment_more : (gap : ℕ) (before : Option Stamp) (stream more : List Entry) → IsSpaced gap before (stream ++ more)
    → moment_after (moment_of before) stream ≤ moment_after (moment_of before) (stream ++ more)
moment_more gap before [] more spaced = moment_later gap before more spaced
moment_more gap before (e ∷ stream) more spaced = moment_more gap (Some (stamp_of e)) stream more spaced.1

pub counts_more : (gap : ℕ) (stream more : List Entry) → IsSpaced gap None (stream ++ more)
    → NoFieldFalls (counts_in stream) (counts_in (stream ++ more))
counts_more gap stream more spaced = record {
  frames = capped_mono _ _ (let both = length-append stream more in omega arith);
  bytes = capped_mono _ _ (bytes_more stream more);
  messages = capped_mono _ _ (messages_more stream more);
  last = moment_more gap None stream more spaced;
}

pub latest_push : (before : Option Stamp) (S : List Entry) (e : Entry) → latest before (S ++ e ∷ []) ≡ Some (stamp_of e)
latest_push before [] e = refl
latest_push before (x ∷ xs) e = latest_push (Some (stamp_of x)) xs e

pub spaced_push : (gap : ℕ) (before : Option Stamp) (S : List Entry) (e : Entry) → IsSpaced gap before S
    → IsApart gap (latest before S) e.at → IsSpaced gap before (S ++ e ∷ [])
spaced_push gap before [] e h g = (g, tt)
spaced_push gap before (x ∷ xs) e h g = (h.0, spaced_push gap (Some (stamp_of x)) xs e h.1 g)

pub numbered_push : (i : ℕ) (S : List Entry) (e : Entry) → IsNumbered entry_number i S
    → entry_number e ≡ sequence_number (i + length S) → IsNumbered entry_number i (S ++ e ∷ [])
numbered_push i [] e h g = (g ∙ ap sequence_number (omega arith), tt)
numbered_push i (x ∷ xs) e h g = (h.0, numbered_push (i + 1) xs e h.1 (g ∙ ap sequence_number (omega arith)))

-- a due link's frame is a gap after the last one
pub due_apart : (gap : ℕ) (last : Option Stamp) (now : ℕ) → IsLater last now → is_due gap last now ≡ true
    → IsApart gap last now
due_apart gap None now l d = tt
due_apart gap (Some last) now l d = let k : gap ≤ now - last.at = leb-true _ _ d in omega arith

pub with_push_in : {F : Type 0} (read : F → ℕ) (n : ℕ) (xs : List F) (x : F) → read x ≡ n
    → those_with read n (xs ++ x ∷ []) ≡ those_with read n xs ++ x ∷ []
with_push_in read n xs x is = with_append read n xs (x ∷ [])
    ∙ ap (λ b. those_with read n xs ++ cond b (x ∷ []) []) (eq-eqb (read x) n is)

pub with_push_out : {F : Type 0} (read : F → ℕ) (n : ℕ) (xs : List F) (x : F) → read x ≢ n
    → those_with read n (xs ++ x ∷ []) ≡ those_with read n xs
with_push_out read n xs x isnt = with_append read n xs (x ∷ [])
    ∙ ap (λ b. those_with read n xs ++ cond b (x ∷ []) []) (ne_eqb (read x) n isnt) ∙ append-nil (those_with read n xs)

abbrev no_link : LinkPlan
no_link = link_plan_at [] 0

pub on_both_is : (plan : Plan) (k : ℕ) → IsPlan plan → k < length plan.links
    → is_on_both plan.links (link_plan_at plan.links k).id.0 ≡ is_both (link_plan_at plan.links k).networks
on_both_is plan k valid lt = elim (cases_Bool (is_both (link_plan_at plan.links k).networks)) [
  | inl is ↦ rw is (list_any_at (on vl) plan.links k no_link lt (and_from (nat_eq vl vl) _ (eq-eqb vl vl refl) is))
  | inr isnt ↦ rw isnt (list_any_none (on vl) plan.links (λ j d jlt.
      subst (λ (link : LinkPlan). on vl link ≡ false) (get_or_default plan.links j no_link d jlt) (none isnt j jlt)))
]
  where
    vl : ℕ
    vl = (link_plan_at plan.links k).id.0

    on : ℕ → LinkPlan → Bool
    on n link = nat_eq link.id.0 n && is_both link.networks

    none : is_both (link_plan_at plan.links k).networks ≡ false → (j : ℕ) → j < length plan.links
        → on vl (link_plan_at plan.links j) ≡ false
    none isnt j jlt = elim (cases_eq (link_plan_at plan.links j).id.0 vl) [
      | inl e ↦
          let made = λ (n : ℕ). let v : VlId = record { 0 = n } in v in
          let same : j ≡ k = valid.links_apart j k jlt lt (ap made e) in
          rw same (and_right (nat_eq vl vl) (is_both (link_plan_at plan.links k).networks) isnt)
      | inr ne ↦ and_left (nat_eq (link_plan_at plan.links j).id.0 vl) _ (ne_eqb (link_plan_at plan.links j).id.0 vl ne)
    ]

-- a frame's twin has the same flag of more fragments
twin_more : (net : Net) (e : Entry) → more_in (side net e).frame ≡ more_in e.frame
twin_more net e = ap (nat_le more_fragments) (twin_word net e.frame 20 (λ q. omega arith) (λ q. omega arith))

counts : (t : Bool) (us vs : List Entry) (u v : Entry) → length us ≤ length vs
    → length (cond t (u ∷ us) us) ≤ length (cond t (v ∷ vs) vs)
counts true us vs u v le = omega arith
counts false us vs u v le = le

-- a stream turned to a network and cut short has no more entries of a sub-VL before the next one
fewer_before : (net : Net) (sub other : ℕ) (xs ys : List Entry)
    → length (sub_stream other (before_next sub (map (side net) xs))) ≤ length (sub_stream other (before_next sub (xs ++ ys)))
fewer_before net sub other [] ys = omega arith
fewer_before net sub other (x ∷ xs) ys = elim (cases_Bool (eqb (sub_in x.frame) sub)) [
  | inl is ↦ rw (twin_sub net x.frame, is) (omega arith)
  | inr isnt ↦ rw (twin_sub net x.frame, isnt, twin_sub net x.frame)
      (counts (eqb (sub_in x.frame) other) _ _ (side net x) x (fewer_before net sub other xs ys))
]

pub turns_side : (net : Net) (xs ys : List Entry) → TakesTurns (xs ++ ys) → TakesTurns (map (side net) xs)
turns_side net [] ys h = tt
turns_side net (x ∷ xs) ys h = (
  λ more other.
      let before : length (sub_stream other (before_next (sub_in x.frame) (xs ++ ys))) ≤ 1 =
      h.0 (sym (twin_more net x) ∙ more) other in
      let fewer = fewer_before net (sub_in x.frame) other xs ys in
      rw (twin_sub net x.frame) (omega arith),
  turns_side net xs ys h.1,
)
