-- A frame is early exactly if no release times explain it and those before it: the least release times do, if any.
use Rattle.afdx_laws.proofs.JudgeNames.{AllZip, Bool, IsSome, Last, Line, List, Measure, None, Option, Some, arith, cases_Bool, delay_after, early_since, line_after, line_with, nat_tests, new_line, refl, verdict, ℕ, [], ◌+◌, ◌-◌, ◌∷◌, ◌≡◌, ◌≤◌, AreApart, AreExplained, EarlyExactly, Heard, IsReleaseOf, NoneIsEarly, is_after, times_of}

-- the last frame of a line after a frame
abbrev last_with : Measure → Heard → Option Last → Last
last_with measure h last = record {
  number = h.arrived.fields.number;
  at = h.arrived.at;
  delay = delay_after measure h.arrived.at last;
}

last_is : (measure : Measure) (h : Heard) (line : Line) → (is_after measure h line).last ≡ Some (last_with measure h line.last)
unfolding line_after line_with
last_is measure h line = grind (arith, nat_tests, cases_Bool)

early_is : (measure : Measure) (h : Heard) (line : Line) → (verdict measure h.port h.arrived line).early ≡ early_since measure.gap h.arrived.at line.last
unfolding verdict
early_is measure h line = refl

-- release times from a frame on, by which it had its longest delay
record AreLeast (gap jitter before from : ℕ) (times : List ℕ) : Type 0 where
  releases : List ℕ
  each : AllZip (IsReleaseOf before jitter) releases times
  apart : AreApart gap (from ∷ releases)

least_with : (gap jitter before from at release : ℕ) (times : List ℕ) → IsReleaseOf before jitter release at → from + gap ≤ release
    → AreLeast gap jitter before release times → AreLeast gap jitter before from (at ∷ times)
least_with gap jitter before from at release times is far later =
    record { releases = release ∷ later.releases; each = (is, later.each); apart = (far, later.apart) }

delay_bound : (measure : Measure) (at : ℕ) (last : Option Last) → delay_after measure at last ≤ measure.jitter
delay_bound measure at last = grind (arith, nat_tests)

-- a frame that isn't early comes a gap after the longest delay of the one before
far_enough : (measure : Measure) (before at : ℕ) (last : Last) → last.delay ≤ measure.jitter → measure.jitter ≤ before
    → early_since measure.gap at (Some last) ≡ None
    → before + last.at - last.delay + measure.gap ≤ before + at - delay_after measure at (Some last)
far_enough measure before at last few ahead none = grind (arith, nat_tests)

least : (measure : Measure) (line : Line) (hs : List Heard) (last : Last) (before : ℕ) → line.last ≡ Some last
    → last.delay ≤ measure.jitter → measure.jitter ≤ before → NoneIsEarly measure line hs
    → AreLeast measure.gap measure.jitter before (before + last.at - last.delay) (times_of hs)
least measure line [] last before is few ahead none = record { releases = []; each = tt; apart = tt }
least measure line (h ∷ hs) last before is few ahead none =
    let at : ℕ = h.arrived.at in
    let bound = delay_bound measure at line.last in
    let early : early_since measure.gap at (Some last) ≡ None = rw (early_is measure h line, is) at none.0 in
    let far = far_enough measure before at last few ahead early in
    let bound' = delay_bound measure at (Some last) in
    least_with measure.gap measure.jitter before (before + last.at - last.delay) at (before + at - delay_after measure at (Some last)) (times_of hs)
    (record { least = omega arith; most = omega arith }) far
    (rw is at (least measure (is_after measure h line) hs (last_with measure h line.last) before (last_is measure h line) bound ahead none.1))

-- any release times are no earlier than these
none_early : (measure : Measure) (before from at release : ℕ) (last : Last) → before + last.at ≤ from + last.delay
    → IsReleaseOf before measure.jitter release at → from + measure.gap ≤ release
    → (early_since measure.gap at (Some last) ≡ None) × (before + at ≤ release + delay_after measure at (Some last))
none_early measure before from at release last held is far = grind (arith, nat_tests)

explained : (measure : Measure) (line : Line) (hs : List Heard) (last : Last) (before from : ℕ) (releases : List ℕ) → line.last ≡ Some last
    → before + last.at ≤ from + last.delay → AllZip (IsReleaseOf before measure.jitter) releases (times_of hs)
    → AreApart measure.gap (from ∷ releases) → NoneIsEarly measure line hs
explained measure line [] last before from releases is held each apart = tt
explained measure line (h ∷ hs) last before from [] is held each apart = absurd each
explained measure line (h ∷ hs) last before from (r ∷ rs) is held each apart =
    let at : ℕ = h.arrived.at in
    let both = none_early measure before from at r last held each.0 apart.0 in (
      rw (early_is measure h line, is) both.0,
      explained measure (is_after measure h line) hs (last_with measure h line.last) before r rs (last_is measure h line) (rw is both.1) each.1 apart.1,
    )

-- ---- from the first frame on

first_explains : (measure : Measure) (late : Bool) (hs : List Heard) → NoneIsEarly measure (new_line late measure.arinc) hs
    → AreExplained measure.gap measure.jitter (times_of hs)
first_explains measure late [] none = record { before = 0; releases = []; each = tt; apart = tt }
first_explains measure late (h ∷ hs) none =
    let line : Line = new_line late measure.arinc in
    let later = least measure (is_after measure h line) hs (last_with measure h None) measure.jitter (last_is measure h line) (omega arith) (omega arith) none.1 in
    record {
      before = measure.jitter;
      releases = (measure.jitter + h.arrived.at - measure.jitter) ∷ later.releases;
      each = (record { least = omega arith; most = omega arith }, later.each);
      apart = later.apart;
    }

first_explained : (measure : Measure) (late : Bool) (hs : List Heard) (before : ℕ) (releases : List ℕ)
    → AllZip (IsReleaseOf before measure.jitter) releases (times_of hs) → AreApart measure.gap releases
    → NoneIsEarly measure (new_line late measure.arinc) hs
first_explained measure late [] before releases each apart = tt
first_explained measure late (h ∷ hs) before [] each apart = absurd each
first_explained measure late (h ∷ hs) before (r ∷ rs) each apart =
    let line : Line = new_line late measure.arinc in
    let is = each.0 in (
      early_is measure h line,
      explained measure (is_after measure h line) hs (last_with measure h None) before r rs (last_is measure h line) is.least each.1 apart,
    )

-- ---- after an early one

early_delay : (measure : Measure) (at : ℕ) (last : Option Last) → IsSome (early_since measure.gap at last) → delay_after measure at last ≡ 0
early_delay measure at last early = grind (arith, nat_tests)

again_is : (measure : Measure) (line : Line) (h : Heard) → IsSome (verdict measure h.port h.arrived line).early
    → delay_after measure h.arrived.at line.last ≡ 0
again_is measure line h early = early_delay measure h.arrived.at line.last (rw (early_is measure h line) at early)

pub early_exactly_holds : EarlyExactly
early_exactly_holds measure late hs line h = record {
  first = first_explains measure late hs;
  first_back = λ is. first_explained measure late hs is.before is.releases is.each is.apart;
  again = λ early none.
      let zero = again_is measure line h early in
      let later = least measure (is_after measure h line) hs (last_with measure h line.last) measure.jitter (last_is measure h line)
      (omega arith) (omega arith) none in
      let back : measure.jitter + h.arrived.at - delay_after measure h.arrived.at line.last ≡ measure.jitter + h.arrived.at = omega arith in
      record { before = measure.jitter; releases = later.releases; each = later.each; apart = rw back at later.apart };
  again_back = λ early is.
      let zero = again_is measure line h early in
      explained measure (is_after measure h line) hs (last_with measure h line.last) is.before (is.before + h.arrived.at) is.releases
      (last_is measure h line) (omega arith) is.each is.apart;
}
