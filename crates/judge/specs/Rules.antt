-- The rules by which a packet is admitted, all without a state. A packet that breaks one is judged no further.
use Rattle.std.specs.Prelude.{ℕ, ◌+◌, ◌-◌, ◌==◌, nat_eq, nat_lt, nat_le, ◌&&◌, ◌||◌, unwrap_or, Bool, false, if◌then◌else◌, List, length, drop, take, slice_index, position, Option, Some, None, Result, Ok, Err}
use Rattle.std.specs.Option.{is_some}
use Rattle.byteorder.specs.Endian.{little_number}
use Rattle.afdx_plan.specs.Config.{link_plan_at}
use Rattle.afdx_frame.specs.Frame.{interface_byte}
use Rattle.afdx_frame.specs.Header.{link_in}
use Rattle.afdx_frame.specs.Layout.{framed, layout_broken}
use Rattle.afdx_frame.specs.Profile.{total_length, word_at}
use Rattle.redundant_mux.specs.Lines.{names}
use Rattle.judge.specs.CheckSequence.{check_sequence}
use Rattle.judge.specs.Deviations.{deviation}
use Rattle.judge.specs.Types.{Breach, Deviation, FindingKind, LinkPlan, Net, Options, Plan, Recorded, Refused, VlId}
use Rattle.judge.specs.declared.finding.FindingKind.TheVariants.{Frame, Source, Link, Network, Size}
use Rattle.afdx_frame.specs.declared.layout.Layout.TheVariants.{Snapped, CheckSequence, Recorded as WithCheck, Length}

abbrev pub refused : Option VlId → FindingKind → ℕ → ℕ → Refused
refused link kind seen wanted = record { deviation = deviation kind seen wanted; link = link }

-- the bytes without their check sequence, the last four bytes, which is right
unfoldable pub checked : List ℕ → Result (List ℕ) Refused
checked bytes =
    let seen = little_number 4 (drop (length bytes - 4) bytes) in
    let wanted = check_sequence (take (length bytes - 4) bytes) in
    if nat_lt (length bytes) 4 then Err (refused None (Frame Length) (length bytes) 60)
    else (if nat_eq seen wanted then Ok (take (length bytes - 4) bytes)
    else Err (refused None (Frame CheckSequence) seen wanted))

-- four bytes more than the total length says, as a frame with its check sequence has
abbrev pub has_four_more : List ℕ → Bool
has_four_more f = nat_le 64 (length f) && nat_le (length f) 1518
    && nat_eq (length f) (framed (total_length f) + 4)

-- bytes that don't seem to have a check sequence
unfoldable pub unchecked : List ℕ → Result (List ℕ) Refused
unchecked bytes =
    if has_four_more bytes then Err (refused None (Frame WithCheck) (length bytes) (length bytes - 4)) else Ok bytes

abbrev pub if_kept : List ℕ → Option Breach → Result (List ℕ) Refused
if_kept frame None = Ok frame
if_kept frame (Some why) = Err (refused None (Frame why.rule) why.seen why.wanted)

abbrev pub in_layout : Bool → Result (List ℕ) Refused → Result (List ℕ) Refused
in_layout arinc (Ok frame) = if_kept frame (layout_broken arinc frame)
in_layout arinc (Err why) = Err why

-- a packet ends with its check sequence, by the options or by its capture
abbrev pub has_check : Options → Recorded → Bool
has_check options packet = options.fcs || unwrap_or packet.fcs false

-- The bytes of a packet's frame. If nothing is said, the packet may seem to end with a check sequence.
abbrev pub bytes_in : Options → Recorded → Result (List ℕ) Refused
bytes_in options packet =
    if has_check options packet then checked packet.bytes
    else (if is_some packet.fcs then Ok packet.bytes else unchecked packet.bytes)

-- the frame of a packet, which is whole and of the layout
unfoldable pub frame_in : Options → Recorded → Result (List ℕ) Refused
frame_in options packet =
    if nat_lt (length packet.bytes) packet.original
    then Err (refused None (Frame Snapped) (length packet.bytes) packet.original)
    else in_layout options.arinc (bytes_in options packet)

-- the interface identifier that a link's frame has on a network, 0 if the network doesn't carry it
abbrev pub interface_on : LinkPlan → Net → ℕ
interface_on link net = if names net link.networks then interface_byte net else 0

abbrev pub on_network : ℕ → VlId → LinkPlan → Net → List ℕ → Result ℕ Refused
on_network place vl link net frame =
    if nat_eq (slice_index frame 11) (interface_on link net) then Ok place
    else Err (refused (Some vl) Network (slice_index frame 11) (interface_on link net))

abbrev pub on_link : Plan → VlId → Net → List ℕ → Option ℕ → Result ℕ Refused
on_link plan vl net frame None = Err (refused (Some vl) Link vl.0 0)
on_link plan vl net frame (Some place) = on_network place vl (link_plan_at plan.links place) net frame

abbrev pub place_from : Plan → VlId → Net → List ℕ → Result ℕ Refused
place_from plan vl net frame =
    on_link plan vl net frame (position (λ (link : LinkPlan). link.id.0 == vl.0) plan.links)

-- the place of a frame's link in the plan: the plan has the frame's end system and link, and the link is on this
-- network
unfoldable pub place_of : Plan → Net → List ℕ → Result ℕ Refused
place_of plan net frame =
    if nat_eq (word_at frame 9) plan.end_system
    then place_from plan (record { 0 = link_in frame }) net frame
    else Err (refused None Source (word_at frame 9) plan.end_system)

-- a frame is longer than its link's Lmax, with its check sequence
abbrev pub size_deviation : LinkPlan → ℕ → Option Deviation
size_deviation link len =
    if nat_le (len + 4) link.lmax then None else Some (deviation Size (len + 4) link.lmax)
