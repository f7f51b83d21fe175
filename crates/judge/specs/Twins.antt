-- The frames of a link on two networks, and their twins (ARINC 664 Part 7, redundancy).
use Rattle.std.specs.Prelude.{ℕ, ◌+◌, ◌-◌, nat_eq, nat_lt, nat_le, not, ◌&&◌, ◌||◌, Bool, true, false, if◌then◌else◌, List, [], ◌∷◌, ◌++◌, map, filter, find, length, remove, slice_range, option_map, option_and_then, Option, Some, None}
use Rattle.std.specs.Option.{option_map_or, option_or}
use Rattle.std.specs.List.{position_or_len}
use Rattle.afdx_frame.specs.declared.net.Net.TheVariants.{A, B}
use Rattle.judge.specs.Deviations.{deviation, finding_of}
use Rattle.judge.specs.Figures.{greatest_of, no_times, total_with}
use Rattle.judge.specs.Waiting.{Wait, Pairing}
use Rattle.judge.specs.Times.{other_span}
use Rattle.judge.specs.Types.{Deviation, Finding, Nearness, Net, Span, Tag, VlId}
use Rattle.judge.specs.declared.finding.FindingKind.TheVariants.{Twin, Missing}

-- the time between two times
abbrev pub apart : ℕ → ℕ → ℕ
apart a b = if nat_lt a b then b - a else a - b

abbrev pub is_near : Nearness → ℕ → ℕ → Bool
is_near nearness a b = nat_le (apart a b) nearness.skew

abbrev pub same_net : Net → Net → Bool
same_net A A = true
same_net A B = false
same_net B A = false
same_net B B = true

-- The other network has a packet more than the skew before a frame, so it was recorded when a twin could first come. At
-- the skew exactly isn't enough: of two packets of one time the twin may be the first, and the recorder begin between.
abbrev pub is_heard_before : Nearness → Tag → Bool
is_heard_before nearness tag = option_map_or (λ (span : Span). nat_lt nearness.skew (tag.at - span.earliest))
    (other_span tag.net nearness.times) false

-- The other network has a packet more than the skew after a frame, so it was recorded when a twin could last come.
abbrev pub is_heard_after : Nearness → Tag → Bool
is_heard_after nearness tag = option_map_or (λ (span : Span). nat_lt nearness.skew (span.latest - tag.at))
    (other_span tag.net nearness.times) false

-- a frame of this time isn't within the skew of one that waits, whose twin was recorded by now if it was sent, or isn't
-- wanted, since the other network wasn't recorded before
abbrev pub is_late : Nearness → ℕ → Tag → Bool
is_late nearness at tag = not (is_near nearness tag.at at)
    && (is_heard_after nearness tag || not (is_heard_before nearness tag))

-- a frame of this network, time and number ends the wait of one that has no twin so far: it comes too late, or its own
-- network has come to its number again
abbrev pub is_passed : Nearness → Tag → ℕ → Wait → Bool
is_passed nearness tag number w =
    is_late nearness tag.at w.tag || (same_net w.tag.net tag.net && nat_eq w.number number)

-- the finding of a frame without a twin
abbrev pub missing : VlId → Wait → Finding
missing vl w = finding_of w.tag (Some vl) (deviation Missing w.number 0)

abbrev pub missing_of : VlId → List Wait → List Finding
missing_of vl ws = map (missing vl) ws

-- true if another frame ends the wait of one whose twin was wanted: then it is a finding
abbrev pub is_lost : Nearness → Tag → ℕ → Wait → Bool
is_lost nearness tag number w = is_passed nearness tag number w && is_heard_before nearness w.tag

unfoldable pub found_missing : Nearness → VlId → Tag → ℕ → List Wait → List Finding → List Finding
found_missing nearness vl tag number ws found = found ++ missing_of vl (filter (is_lost nearness tag number) ws)

-- a waiting frame whose wait another one doesn't end
abbrev pub stays : Nearness → Tag → ℕ → Wait → Bool
stays nearness tag number w = not (is_passed nearness tag number w)

abbrev pub kept : Nearness → Tag → ℕ → List Wait → List Wait
kept nearness tag number ws = filter (stays nearness tag number) ws

unfoldable pub left_waiting : Nearness → Tag → ℕ → Pairing → Pairing
left_waiting nearness tag number p =
    record p { waiting = kept nearness tag number p.waiting }

-- the first place from one on at which bytes differ
abbrev pub first_other : ℕ → List ℕ → List ℕ → Option ℕ
first_other i [] [] = None
first_other i [] (y ∷ ys) = Some i
first_other i (x ∷ xs) [] = Some i
first_other i (x ∷ xs) (y ∷ ys) = if nat_eq x y then first_other (i + 1) xs ys else Some i

-- the first place at which frames of two networks differ, but for the interface identifier
unfoldable pub twin_other : List ℕ → List ℕ → Option ℕ
twin_other a b = option_or (first_other 0 (slice_range a 0 11) (slice_range b 0 11))
    (first_other 12 (slice_range a 12 (length a)) (slice_range b 12 (length b)))

-- the frame that waits with this number on the other network, within the skew
abbrev pub is_twin : Nearness → Tag → ℕ → Wait → Bool
is_twin nearness tag number w = not (same_net w.tag.net tag.net) && nat_eq w.number number
    && is_near nearness w.tag.at tag.at

abbrev pub other_at : Wait → Option ℕ → Option Deviation
other_at w place = option_map (λ place. deviation Twin place w.tag.packet) place

unfoldable pub twin_deviation : Nearness → Tag → ℕ → List ℕ → Pairing → Option Deviation
twin_deviation nearness tag number frame p =
    option_and_then (λ w. other_at w (twin_other w.bytes frame)) (find (is_twin nearness tag number) p.waiting)

abbrev pub no_pairing : Pairing
no_pairing = record { waiting = []; lead = None; leads = no_times }

abbrev pub met : Nearness → Tag → ℕ → List ℕ → Pairing → Option Wait → Pairing
met nearness tag number frame p None =
    record p { waiting = p.waiting ++ record { tag = tag; number = number; bytes = frame } ∷ [] }
met nearness tag number frame p (Some w) = record {
  waiting = remove p.waiting (position_or_len (is_twin nearness tag number) p.waiting);
  lead = greatest_of p.lead (Some (apart w.tag.at tag.at));
  leads = total_with (apart w.tag.at tag.at) p.leads;
}

-- the waiting frames after a frame, which is paired with its twin, or waits
unfoldable pub pairing_with : Nearness → Tag → ℕ → List ℕ → Pairing → Pairing
pairing_with nearness tag number frame p =
    met nearness tag number frame p (find (is_twin nearness tag number) p.waiting)

-- The twin of a frame that waits at the end of a recording was wanted: the other network was recorded from before the
-- frame, less the skew, until after it, with the skew.
abbrev pub is_left : Nearness → Wait → Bool
is_left nearness w = is_heard_before nearness w.tag && is_heard_after nearness w.tag

unfoldable pub found_at_end : Nearness → VlId → List Wait → List Finding → List Finding
found_at_end nearness vl ws found = found ++ missing_of vl (filter (is_left nearness) ws)
