-- The findings of a recording by a plan: the deviations of its packets, in their order.
use Rattle.std.specs.Prelude.{ℕ, ◌*◌, nat_eq, ◌&&◌, Bool, true, false, if◌then◌else◌, List, [], ◌∷◌, length, slice_set, get_or, replicate, option_map, option_and_then, Option, Some, None, Result, Ok, Err}
use Rattle.afdx_plan.specs.Config.{link_plan_at}
use Rattle.afdx_plan.specs.Plan.{bag_micros, is_both, room_of}
use Rattle.afdx_frame.specs.declared.net.Net.TheVariants.{A, B}
use Rattle.judge.specs.Deviations.{deviation, with_finding}
use Rattle.judge.specs.Fields.{fields_of}
use Rattle.judge.specs.Joining.{port_of}
use Rattle.judge.specs.Lines.{new_line, line_after, verdict, sub_in, sub_of}
use Rattle.judge.specs.Rules.{frame_in, place_of, size_deviation}
use Rattle.judge.specs.Times.{no_times, times_with}
use Rattle.judge.specs.Twins.{found_missing, left_waiting, twin_deviation, no_pairing, pairing_with, found_at_end}
use Rattle.judge.specs.Types.{Arrived, Fields, Figures, Finding, FindingKind, Line, Link, LinkPlan, Measure, Nearness, Net, Options, Plan, PortPlan, Recorded, Refused, Setting, Tag, Times, Total, Verdict, VlId}
use Rattle.judge.specs.declared.finding.FindingKind.TheVariants.{Frame}
use Rattle.afdx_frame.specs.declared.layout.Layout.TheVariants.{Time, Recorded as WithCheck}

-- ---- a link

abbrev pub new_link : Bool → Bool → Link
new_link late arinc = record {
  a = new_line late arinc;
  b = new_line late arinc;
  twins = no_pairing;
}

abbrev pub link_at : List Link → ℕ → Link
link_at links place = get_or links place (new_link false false)

abbrev pub line_on : Net → Link → Line
line_on A link = link.a
line_on B link = link.b

abbrev pub with_line : Net → Line → Link → Link
with_line A line link = record link { a = line }
with_line B line link = record link { b = line }

-- the figures of a link on a network, if the plan has the link
abbrev pub figures_on : Net → Option Link → Option Figures
figures_on net link = option_map (λ (link : Link). (line_on net link).figures) link

abbrev pub lead_of : Option Link → Option ℕ
lead_of link = option_and_then (λ (link : Link). link.twins.lead) link

abbrev pub leads_of : Option Link → Option Total
leads_of link = option_map (λ (link : Link). link.twins.leads) link

-- the findings of a line, in the order of their kinds
unfoldable pub with_verdict : Tag → VlId → Verdict → List Finding → List Finding
with_verdict tag vl v found = with_finding tag (Some vl) v.turn
    (with_finding tag (Some vl) v.message
    (with_finding tag (Some vl) v.fragment
    (with_finding tag (Some vl) v.port
    (with_finding tag (Some vl) v.early (with_finding tag (Some vl) v.number found)))))

-- a link on both networks before a frame: the frames whose wait this one ends are given up
abbrev pub given_up : Setting → Tag → ℕ → Link → Link
given_up setting tag number link =
    if is_both setting.plan.networks
    then record link { twins = left_waiting setting.nearness tag number link.twins } else link

abbrev pub found_given_up : Setting → Tag → ℕ → Link → List Finding → List Finding
found_given_up setting tag number link found =
    if is_both setting.plan.networks
    then found_missing setting.nearness setting.plan.id tag number link.twins.waiting found else found

-- a link on both networks after a frame, which is paired with its twin or waits
abbrev pub paired : Setting → Tag → ℕ → List ℕ → Link → Link
paired setting tag number frame link =
    if is_both setting.plan.networks
    then record link { twins = pairing_with setting.nearness tag number frame link.twins } else link

abbrev pub found_twin : Setting → Tag → ℕ → List ℕ → Link → List Finding → List Finding
found_twin setting tag number frame link found =
    if is_both setting.plan.networks
    then with_finding tag (Some setting.plan.id) (twin_deviation setting.nearness tag number frame link.twins) found
    else found

abbrev pub arrived : Measure → Tag → Option PortPlan → List ℕ → Line → Arrived
arrived measure tag port frame line = record {
  at = tag.at;
  len = length frame;
  fields = fields_of frame;
  sub = sub_of measure port (fields_of frame) line;
}

-- a frame on its line
abbrev pub with_frame : Setting → Tag → Option PortPlan → List ℕ → Link → Link
with_frame setting tag port frame link = with_line tag.net
    (line_after setting.measure port (arrived setting.measure tag port frame (line_on tag.net link))
    (line_on tag.net link))
    link

abbrev pub found_on_line : Setting → Tag → Option PortPlan → List ℕ → Link → List Finding → List Finding
found_on_line setting tag port frame link found = with_verdict tag setting.plan.id
    (verdict setting.measure port (arrived setting.measure tag port frame (line_on tag.net link))
    (line_on tag.net link))
    (with_finding tag (Some setting.plan.id) (size_deviation setting.plan (length frame)) found)

-- the link after a frame, and the findings with the frame's
unfoldable pub link_after : Setting → Tag → Option PortPlan → List ℕ → Link → Link
link_after setting tag port frame link =
    let number = (fields_of frame).number in
    paired setting tag number frame (with_frame setting tag port frame (given_up setting tag number link))

unfoldable pub found_on_link : Setting → Tag → Option PortPlan → List ℕ → Link → List Finding → List Finding
found_on_link setting tag port frame link found =
    let number = (fields_of frame).number in
    let before = given_up setting tag number link in
    found_twin setting tag number frame before
    (found_on_line setting tag port frame before (found_given_up setting tag number link found))

-- ---- a judge

-- the state of a judge after some packets: its plan and options, the times, true if a frame was found to have its check
-- sequence, and the links by their places in the plan
pub record Judging : Type 0 where
  pub plan : Plan
  pub options : Options
  pub times : Times
  pub told : Bool
  pub links : List Link

-- nothing came
abbrev pub at_start : Plan → Options → Judging
at_start plan options = record {
  plan = plan;
  options = options;
  times = no_times;
  told = false;
  links = replicate (length plan.links) (new_link options.late options.arinc);
}

-- the number of a link's sub-VLs, its gap and the jitter in nanoseconds, and the room of its frames
abbrev pub measure_of : Options → LinkPlan → Measure
measure_of options link = record {
  room = room_of link.lmax;
  sub_vls = link.sub_vls;
  gap = 1000 * bag_micros link.bag;
  jitter = 1000 * options.jitter;
  late = options.late;
  arinc = options.arinc;
}

abbrev pub nearness_of : Options → Times → Nearness
nearness_of options times = record { skew = 1000 * options.skew; times = times }

abbrev pub setting_of : Judging → ℕ → Setting
setting_of j place = record {
  plan = link_plan_at j.plan.links place;
  measure = measure_of j.options (link_plan_at j.plan.links place);
  nearness = nearness_of j.options j.times;
}

-- the port of a first piece
abbrev pub first_port : Bool → List PortPlan → VlId → Fields → Option PortPlan
first_port arinc ports vl fields =
    if nat_eq fields.piece.start 0 then port_of arinc ports vl.0 (sub_in fields) fields.flow else None

abbrev pub port_on : Judging → ℕ → List ℕ → Option PortPlan
port_on j place frame =
    first_port j.options.arinc j.plan.ports (link_plan_at j.plan.links place).id (fields_of frame)

-- a frame of the link at a place
unfoldable pub with_arrival : Tag → ℕ → List ℕ → Judging → Judging
with_arrival tag place frame j = record j {
  links = slice_set j.links place
      (link_after (setting_of j place) tag (port_on j place frame) frame (link_at j.links place));
}

unfoldable pub found_of_arrival : Tag → ℕ → List ℕ → Judging → List Finding → List Finding
found_of_arrival tag place frame j found =
    found_on_link (setting_of j place) tag (port_on j place frame) frame (link_at j.links place) found

-- true for the refusal of a frame with its check sequence, which is a finding only once
abbrev pub is_with_check : FindingKind → Bool
is_with_check (Frame WithCheck) = true
is_with_check _ = false

abbrev pub with_refusal : Refused → Judging → Judging
with_refusal why j = if is_with_check why.deviation.kind then record j { told = true } else j

abbrev pub found_refusal : Tag → Refused → Judging → List Finding → List Finding
found_refusal tag why j found =
    if is_with_check why.deviation.kind && j.told then found
    else with_finding tag why.link (Some why.deviation) found

-- an admitted packet: a frame of the link at a place
pub record Admitted : Type 0 where
  pub place : ℕ
  pub frame : List ℕ

abbrev pub at_place : List ℕ → Result ℕ Refused → Result Admitted Refused
at_place frame (Ok place) = Ok (record { place = place; frame = frame })
at_place frame (Err why) = Err why

abbrev pub placed : Plan → Net → Result (List ℕ) Refused → Result Admitted Refused
placed plan net (Ok frame) = at_place frame (place_of plan net frame)
placed plan net (Err why) = Err why

unfoldable pub admitted : Net → Recorded → Judging → Result Admitted Refused
admitted net packet j = placed j.plan net (frame_in j.options packet)

abbrev pub judged : Tag → Result Admitted Refused → Judging → Judging
judged tag (Ok it) j = with_arrival tag it.place it.frame j
judged tag (Err why) j = with_refusal why j

abbrev pub found_judged : Tag → Result Admitted Refused → Judging → List Finding → List Finding
found_judged tag (Ok it) j found = found_of_arrival tag it.place it.frame j found
found_judged tag (Err why) j found = found_refusal tag why j found

-- a packet of a network with a time
abbrev pub timed : Net → ℕ → Judging → Judging
timed net at j = record j { times = times_with net at j.times }

abbrev pub tag_of : Net → ℕ → ℕ → Tag
tag_of net number at = record { packet = number; net = net; at = at }

abbrev pub after_timed : Net → ℕ → Recorded → Judging → Option ℕ → Judging
after_timed net number packet j None = j
after_timed net number packet j (Some at) =
    judged (tag_of net number at) (admitted net packet (timed net at j)) (timed net at j)

abbrev pub found_timed : Net → ℕ → Recorded → Judging → List Finding → Option ℕ → List Finding
found_timed net number packet j found None =
    with_finding (tag_of net number 0) None (Some (deviation (Frame Time) 0 0)) found
found_timed net number packet j found (Some at) =
    found_judged (tag_of net number at) (admitted net packet (timed net at j)) (timed net at j) found

-- A packet of a network, by its number in its file: the judge after it, and the findings with the packet's.
unfoldable pub after_packet : Net → ℕ → Recorded → Judging → Judging
after_packet net number packet j = after_timed net number packet j packet.at

unfoldable pub found_with_packet : Net → ℕ → Recorded → Judging → List Finding → List Finding
found_with_packet net number packet j found = found_timed net number packet j found packet.at

-- the findings at the end of the recording, of the links in the order of the plan
abbrev pub found_left : Nearness → List LinkPlan → List Link → List Finding → List Finding
found_left nearness [] links found = found
found_left nearness (plan ∷ plans) [] found = found
found_left nearness (plan ∷ plans) (link ∷ links) found =
    found_left nearness plans links (found_at_end nearness plan.id link.twins.waiting found)

unfoldable pub found_with_end : Judging → List Finding → List Finding
found_with_end j found = found_left (nearness_of j.options j.times) j.plan.links j.links found

-- ---- a recording

-- a packet of a recording: its network, its number in its file, and its record
pub record OnNet : Type 0 where
  pub net : Net
  pub number : ℕ
  pub packet : Recorded

-- all findings of packets from here on
abbrev pub found_from : List OnNet → Judging → List Finding → List Finding
found_from [] j found = found_with_end j found
found_from (p ∷ ps) j found = found_from ps (after_packet p.net p.number p.packet j)
    (found_with_packet p.net p.number p.packet j found)

-- The findings of a recording.
abbrev pub findings : Plan → Options → List OnNet → List Finding
findings plan options recording = found_from recording (at_start plan options) []
