-- The judges of several end systems. Each hears the packets of its own, which their source MAC addresses name.
use Rattle.std.specs.Prelude.{ℕ, Bool, not, ◌&&◌, ◌==◌, ◌++◌, if◌then◌else◌, nat_eq, nat_le, List, [], ◌∷◌, length, slice_index, slice_get, Option, Some, None, option_and_then, unwrap_or}
use Rattle.std.specs.Map.{lookup, set_value}
use Rattle.std.specs.Option.{is_some}
use Rattle.std.specs.BTreeMap.{insert_entry, is_at}
use Rattle.std.specs.Ordering.{nat_cmp}
use Rattle.afdx_frame.specs.Profile.{word_at}
use Rattle.capture.specs.Recording.{Recorded}
use Rattle.judge.specs.Types.{Net, Plan}
use Rattle.judge.specs.declared.judge.Options.{Options}
use Rattle.judge.specs.declared.finding.Finding.{Finding}
use Rattle.judge.specs.Judging.{Judging, after_packet, at_start, found_with_end, found_with_packet}
use Rattle.judge.specs.declared.finding.FindingKind.TheVariants.{Source}

-- the judges by their end systems, and these in the order of their plans
pub record Judges : Type 0 where
  pub judges : List (ℕ × Judging)
  pub order : List ℕ

-- the end system that the source MAC address of a frame names
abbrev pub source_of : List ℕ → Option ℕ
source_of f = if nat_le 12 (length f) && nat_eq (slice_index f 6) 2 && nat_eq (slice_index f 7) 0
    && nat_eq (slice_index f 8) 0 then Some (word_at f 9) else None

-- the end system whose judge hears a frame: the only one hears each
abbrev pub heard_as : List ℕ → List ℕ → Option ℕ
heard_as order f = if length order == 1 then slice_get order 0 else source_of f

abbrev pub judge_at : List (ℕ × Judging) → ℕ → Option Judging
judge_at judges s = lookup (is_at (nat_cmp s)) judges

abbrev pub put : ℕ → List (ℕ × Judging) → Option Judging → List (ℕ × Judging)
put s judges None = judges
put s judges (Some j) = set_value (is_at (nat_cmp s)) judges j

abbrev pub after_as : Net → ℕ → Recorded → Judges → Option ℕ → Judges
after_as net number p t None = t
after_as net number p t (Some s) = record t {
  judges = put s t.judges (option_and_then (λ j. Some (after_packet net number p j)) (judge_at t.judges s));
}

-- a packet of a judge's own end system
abbrev pub after_heard : Net → ℕ → Recorded → Judges → Judges
after_heard net number p t = after_as net number p t (heard_as t.order p.bytes)

-- the finding of a packet that no judge hears
abbrev pub stray : Net → ℕ → Recorded → Judges → Finding
stray net number p t = record {
  kind = Source;
  packet = number;
  net = net;
  at = unwrap_or p.at 0;
  link = None;
  seen = unwrap_or (source_of p.bytes) 0;
  wanted = unwrap_or (slice_get t.order 0) 0;
}

abbrev pub found_by : Net → ℕ → Recorded → Judges → List Finding → Option Judging → List Finding
found_by net number p t found None = found ++ stray net number p t ∷ []
found_by net number p t found (Some j) = found_with_packet net number p j found

abbrev pub found_heard : Net → ℕ → Recorded → Judges → List Finding → List Finding
found_heard net number p t found =
    found_by net number p t found (option_and_then (judge_at t.judges) (heard_as t.order p.bytes))

-- no plan
abbrev pub no_judges : Judges
no_judges = record { judges = []; order = [] }

-- with the judge of one more plan
abbrev pub with_judge : Plan → Options → Judges → Judges
with_judge plan options t = record {
  judges = insert_entry nat_cmp t.judges plan.end_system (at_start plan options);
  order = t.order ++ plan.end_system ∷ [];
}

-- with the judges of more plans, one after the other
abbrev pub with_judges : List Plan → Options → Judges → Judges
with_judges [] options t = t
with_judges (plan ∷ plans) options t = with_judges plans options (with_judge plan options t)

-- the source MAC address of a frame names no plan's end system; a frame that ends before its type isn't foreign
abbrev pub is_foreign : List ℕ → Judges → Bool
is_foreign f t = nat_le 14 (length f) && not (is_some (option_and_then (judge_at t.judges) (source_of f)))

-- the findings at the end of the recording, in the order of the plans
abbrev pub ended : List Finding → Option Judging → List Finding
ended found None = found
ended found (Some j) = found_with_end j found

abbrev pub ended_all : List (ℕ × Judging) → List ℕ → List Finding → List Finding
ended_all judges [] found = found
ended_all judges (s ∷ ss) found = ended_all judges ss (ended found (judge_at judges s))
