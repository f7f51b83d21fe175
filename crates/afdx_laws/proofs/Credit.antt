-- The account of a policer: a spaced stream on its way is on time and passes, and what passes is paid for.
use Rattle.afdx_laws.proofs.Names.{ℕ, ◌≡◌, ◌+◌, ◌-◌, ◌*◌, ◌≤◌, List, [], ◌∷◌, map, arith, refl, ap, ◌∙◌, suc, mul-le, Arrival, Rule, Account, Charge, by_bytes, by_frames, full, filled, paid, price, passed, Passage, arrival, IsOnTime, AreOnTime, NoneDropped, IsUpTo, IsOnItsWay, rule_around, StreamPasses, Option, Some, All, AllZip, Entry, stamp_of, IsSpaced, inl, inr, cases_lt, le-leb, sum_by-cons, limit, cost, AreBetween, NoMorePasses, mul-add, le-min, Stamp}

price_le : (charge : Charge) (rule : Rule) (frame : Arrival) → frame.size ≤ rule.lmax → price charge rule frame ≤ rule.lmax * rule.gap
price_le by_bytes rule frame h = grind (arith, mul-le)
price_le by_frames rule frame h = omega arith

-- the credit when a frame arrives: its price, and what accrued while it was on its way
abbrev IsReady : Rule → Account → Passage → Type 0
IsReady rule account p = rule.lmax * (rule.gap + (p.arrived - p.released)) ≤ (filled rule account p.arrived).credit

ready_first : (rule : Rule) (p : Passage) → IsOnTime rule p → IsReady rule (full rule) p
ready_first rule p on = grind arith

ready_next : (rule : Rule) (credit : ℕ) (p q : Passage) → IsOnTime rule p → IsOnTime rule q → p.released + rule.gap ≤ q.released
    → rule.lmax * (p.arrived - p.released) ≤ credit → IsReady rule (record { credit = credit; since = p.arrived }) q
ready_next rule credit p q on next apart has =
    let m = mul-le rule.lmax (rule.gap + (q.arrived - q.released)) rule.lmax (rule.gap + rule.jitter) (omega arith)
    (omega arith) in
    grind (arith, mul-add rule.lmax (p.arrived - p.released) (q.arrived - p.arrived), mul-le, le-min)

passes : (charge : Charge) (rule : Rule) (account : Account) (p : Passage) (frames : List Arrival)
    → price charge rule (arrival p) ≤ (filled rule account p.arrived).credit
    → passed charge rule account (arrival p ∷ frames) ≡ arrival p ∷ passed charge rule
    (paid (filled rule account p.arrived) (price charge rule (arrival p))) frames
passes charge rule account p frames h = grind arith

enough : (charge : Charge) (rule : Rule) (account : Account) (p : Passage) → IsReady rule account p
    → IsOnTime rule p → price charge rule (arrival p) ≤ (filled rule account p.arrived).credit
enough charge rule account p ready on = grind (arith, price_le charge rule (arrival p) on.small)

all_pass : (charge : Charge) (rule : Rule) (account : Account) (p : Passage) (rest : List Passage)
    → AreOnTime rule (p ∷ rest) → IsReady rule account p → passed charge rule account (map arrival (p ∷ rest)) ≡ map arrival (p ∷ rest)
all_pass charge rule account p [] on ready = grind (arith, enough)
all_pass charge rule account p (q ∷ rest) on ready =
    let cost = price charge rule (arrival p) in
    let cheap = price_le charge rule (arrival p) (on.0).small in
    passes charge rule account p (map arrival (q ∷ rest)) (enough charge rule account p ready on.0)
    ∙ ap (λ (fs : List Arrival). arrival p ∷ fs)
    (all_pass charge rule (paid (filled rule account p.arrived) cost) q rest on.2
    (grind (arith, ready_next)))

pub none_dropped_holds : NoneDropped
none_dropped_holds charge rule [] on = refl
none_dropped_holds charge rule (p ∷ []) on = all_pass charge rule (full rule) p [] on (ready_first rule p on)
none_dropped_holds charge rule (p ∷ q ∷ rest) on = all_pass charge rule (full rule) p (q ∷ rest) on (ready_first rule p on.0)

on_time : (gap lmax jitter around : ℕ) (r : Entry) (p : Passage) → IsUpTo lmax r → IsOnItsWay around jitter r p
    → IsOnTime (rule_around gap lmax jitter around) p
on_time gap lmax jitter around r p small way = omega arith

are_on_time : (gap lmax jitter around : ℕ) (before : Option Stamp) (stream : List Entry) (passages : List Passage)
    → IsSpaced gap before stream → All (IsUpTo lmax) stream → AllZip (IsOnItsWay around jitter) stream passages
    → AreOnTime (rule_around gap lmax jitter around) passages
are_on_time gap lmax jitter around before stream [] spaced small way = tt
are_on_time gap lmax jitter around before [] (p ∷ passages) spaced small way = absurd way
are_on_time gap lmax jitter around before (r ∷ later) (p ∷ []) spaced small way =
    on_time gap lmax jitter around r p (small 0 r (omega arith)) way.0
are_on_time gap lmax jitter around before (r ∷ []) (p ∷ q ∷ passages) spaced small way = absurd way.1
are_on_time gap lmax jitter around before (r ∷ s ∷ later) (p ∷ q ∷ passages) spaced small way = (
  on_time gap lmax jitter around r p (small 0 r (omega arith)) way.0,
  omega arith,
  are_on_time gap lmax jitter around (Some (stamp_of r)) (s ∷ later) (q ∷ passages) spaced.1
      (λ k d h. small (suc k) d (omega arith)) way.1,
)

pub stream_passes_holds : StreamPasses
stream_passes_holds charge gap lmax jitter around stream passages spaced small way =
    none_dropped_holds charge (rule_around gap lmax jitter around) passages
    (grind (arith, are_on_time))

one_passed : (charge : Charge) (rule : Rule) (account : Account) (f : Arrival) (later : List Arrival)
    → price charge rule f ≤ (filled rule account f.at).credit → cost charge rule (passed charge rule account (f ∷ later))
    ≡ price charge rule f + cost charge rule
    (passed charge rule (paid (filled rule account f.at) (price charge rule f)) later)
one_passed charge rule account f later can = grind (
  arith,
  le-leb _ _ can,
  sum_by-cons (price charge rule) f (passed charge rule (paid (filled rule account f.at) (price charge rule f)) later),
)

filled_over : (l since now end : ℕ) → since ≤ now → now ≤ end → l * (now - since) + l * (end - now) ≡ l * (end - since)
filled_over l since now end first second = grind arith

in_order : (start end : ℕ) (frames : List Arrival) → AreBetween start end frames → start ≤ end
in_order start end [] between = between
in_order start end (f ∷ later) between = grind (arith, in_order f.at end later between.1)

-- the cost is at most the credit, and at most the limit, each with what accrues until the end
spent : (charge : Charge) (rule : Rule) (credit start end : ℕ) (frames : List Arrival) → AreBetween start end frames
    → (cost charge rule (passed charge rule (record { credit = credit; since = start }) frames)
    ≤ credit + rule.lmax * (end - start))
    × (cost charge rule (passed charge rule (record { credit = credit; since = start }) frames)
    ≤ limit rule + rule.lmax * (end - start))
spent charge rule credit start end [] between = (omega arith, omega arith)
spent charge rule credit start end (f ∷ later) between =
    let account : Account = record { credit = credit; since = start } in
    let now : Account = filled rule account f.at in
    let order = in_order f.at end later between.1 in
    let whole = filled_over rule.lmax start f.at end between.0 order in
    elim (cases_lt now.credit (price charge rule f)) [
      | inl cannot ↦
          grind (arith, spent charge rule now.credit f.at end later between.1)
      | inr can ↦
          grind (arith, spent charge rule (now.credit - price charge rule f) f.at end later between.1, one_passed charge rule account f later can)
    ]

pub no_more_passes_holds : NoMorePasses
no_more_passes_holds charge rule credit start end frames between = grind (arith, (spent charge rule credit start end frames between).1)
