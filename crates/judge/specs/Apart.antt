-- The findings of each end system's judge on a tap.
use Rattle.std.specs.Prelude.{ℕ, ◌≡◌, if◌then◌else◌, nat_eq, map, Bool, false, List, [], ◌∷◌, Option, Some, None}
use Rattle.afdx_frame.specs.declared.net.Net.TheVariants.{A}
use Rattle.judge.specs.declared.finding.Finding.{Finding}
use Rattle.judge.specs.Judging.{Judging, OnNet, found_from}
use Rattle.judge.specs.Tap.{Judges, heard_as, judge_at, after_heard, ended, found_heard}

abbrev pub is_number : ℕ → Option ℕ → Bool
is_number s None = false
is_number s (Some r) = nat_eq r s

-- the packets that the judge of an end system hears
abbrev pub own : List ℕ → ℕ → List OnNet → List OnNet
own order s [] = []
own order s (p ∷ ps) =
    if is_number s (heard_as order p.packet.bytes) then p ∷ own order s ps else own order s ps

-- the findings at the packets of an end system from here on, and its judge's findings at the end
abbrev pub told_of : ℕ → List OnNet → Judges → List Finding → List Finding
told_of s [] t found = ended found (judge_at t.judges s)
told_of s (p ∷ ps) t found = told_of s ps (after_heard p.net p.number p.packet t)
    (if is_number s (heard_as t.order p.packet.bytes) then found_heard p.net p.number p.packet t found else found)

-- An end system's findings are what its judge alone finds in its packets, whatever else the tap carries.
abbrev pub JudgedApart : Type 0
JudgedApart = (s : ℕ) (ps : List OnNet) (t : Judges) (j : Judging) (found : List Finding)
    → judge_at t.judges s ≡ Some j → told_of s ps t found ≡ found_from (own t.order s ps) j found

-- ---- worked rows

-- a packet of an end system, as far as its source MAC address
abbrev pub packet_of : ℕ → OnNet
packet_of s = record {
  net = A;
  number = 1;
  packet = record {
    interface = 0;
    network = None;
    at = Some 0;
    original = 60;
    bytes = 3 ∷ 0 ∷ 0 ∷ 0 ∷ 0 ∷ 1 ∷ 2 ∷ 0 ∷ 0 ∷ 0 ∷ s ∷ 32 ∷ [];
    fcs = None;
  };
}

-- no judge, on a tap of the plans of end systems 1 and 2
abbrev pub nobody : Judges
nobody = record { judges = []; order = 1 ∷ 2 ∷ [] }

abbrev pub told_by : OnNet → List Finding
told_by p = found_heard p.net p.number p.packet nobody []

-- Of two end systems each hears its own packet; of one, its judge hears both; and a packet of neither is a finding.
abbrev pub Worked : Type 0
Worked = (own (1 ∷ 2 ∷ []) 2 (packet_of 1 ∷ packet_of 2 ∷ packet_of 3 ∷ []) ≡ packet_of 2 ∷ [])
    × (own (1 ∷ []) 1 (packet_of 1 ∷ packet_of 2 ∷ []) ≡ packet_of 1 ∷ packet_of 2 ∷ [])
    × (map (λ (f : Finding). f.seen) (told_by (packet_of 3)) ≡ 3 ∷ [])

-- The premise is needed: a packet of an end system without a judge is a finding, though no judge hears it.
abbrev pub Needed : Type 0
Needed = map (λ (f : Finding). f.wanted) (told_of 3 (packet_of 3 ∷ []) nobody []) ≡ 1 ∷ []
