-- Each judge of a tap hears the packets of its own end system alone.
use Rattle.std.proofs.Common.{arith, ◌≡◌, ℕ, Bool, true, false, List, Some, None, refl, [], ◌∷◌}
use Rattle.std.specs.Prelude.{Option, nat_eq}
use Rattle.judge.specs.declared.finding.Finding.{Finding}
use Rattle.judge.specs.Judging.{Judging, OnNet, after_packet, found_with_packet, found_from}
use Rattle.judge.specs.Tap.{Judges, heard_as, judge_at, put, after_as}
use Rattle.judge.specs.Apart.{own, told_of, JudgedApart}

-- a judge that is put at its number is found there
look_same : (s : ℕ) (js : List (ℕ × Judging)) (j w : Judging) → judge_at js s ≡ Some j
    → judge_at (put s js (Some w)) s ≡ Some w
look_same s [] j w is = grind arith
look_same s (e ∷ es) j w is = grind (arith, look_same s es j w)

-- and changes none of the others
look_other : (r s : ℕ) (js : List (ℕ × Judging)) (w : Option Judging) → nat_eq r s ≡ false
    → judge_at (put r js w) s ≡ judge_at js s
look_other r s js None apart = refl
look_other r s [] (Some w) apart = refl
look_other r s (e ∷ es) (Some w) apart = grind (arith, look_other r s es (Some w) apart)

is_same : (r s : ℕ) → nat_eq r s ≡ true → r ≡ s
is_same r s same = grind arith

-- what holds from the packets after one on
abbrev Next : ℕ → List OnNet → Type 0
Next s ps = (t : Judges) (j : Judging) (found : List Finding) → judge_at t.judges s ≡ Some j
    → told_of s ps t found ≡ found_from (own t.order s ps) j found

-- a packet of this end system, or of another one
by_number : (s : ℕ) (p : OnNet) (ps : List OnNet) (t : Judges) (j : Judging) (found : List Finding) (r : ℕ) (b : Bool)
    → nat_eq r s ≡ b → heard_as t.order p.packet.bytes ≡ Some r → judge_at t.judges s ≡ Some j → Next s ps
    → told_of s (p ∷ ps) t found ≡ found_from (own t.order s (p ∷ ps)) j found
by_number s p ps t j found r true same heard is next =
    let after = after_packet p.net p.number p.packet j in
    rw (heard, same) (rw (is_same r s same, is)
    (next (record t { judges = put s t.judges (Some after) }) after (found_with_packet p.net p.number p.packet j found)
    (look_same s t.judges j after is)))
by_number s p ps t j found r false apart heard is next =
    rw (heard, apart) (next (after_as p.net p.number p.packet t (Some r)) j found
    (rw (look_other r s t.judges _ apart) is))

of_packet : (s : ℕ) (p : OnNet) (ps : List OnNet) (t : Judges) (j : Judging) (found : List Finding) (o : Option ℕ)
    → heard_as t.order p.packet.bytes ≡ o → judge_at t.judges s ≡ Some j → Next s ps
    → told_of s (p ∷ ps) t found ≡ found_from (own t.order s (p ∷ ps)) j found
of_packet s p ps t j found None heard is next = rw heard (next t j found is)
of_packet s p ps t j found (Some r) heard is next = by_number s p ps t j found r (nat_eq r s) refl heard is next

pub judged_apart : JudgedApart
judged_apart s [] t j found is = rw is refl
judged_apart s (p ∷ ps) t j found is = of_packet s p ps t j found (heard_as t.order p.packet.bytes) refl is (judged_apart s ps)
