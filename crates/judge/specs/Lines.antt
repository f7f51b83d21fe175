-- A link on a network: its sequence numbers, its gaps, the turns of its sub-VLs, and the messages of these.
use Rattle.std.specs.Prelude.{ℕ, ◌+◌, ◌-◌, ◌%◌, nat_eq, nat_lt, nat_le, ◌&&◌, ◌||◌, Bool, false, true, if◌then◌else◌, min, List, [], ◌∷◌, slice_set, get_or, position, take, unwrap_or, option_map, not, Option, Some, None}
use Rattle.std.specs.Option.{is_some, option_map_or}
use Rattle.judge.specs.Deviations.{deviation, first_of}
use Rattle.judge.specs.Fields.{ends_message}
use Rattle.judge.specs.Figures.{figures_after, no_figures}
use Rattle.judge.specs.Joining.{fragment_deviation, head_now, end_deviation, joined, goes_on, next_of}
use Rattle.judge.specs.Types.{Arrived, Deviation, Fields, Figures, FindingKind, Joining, Last, Line, Measure, PortPlan, Sub, Verdict}
use Rattle.judge.specs.declared.finding.FindingKind.TheVariants.{Number, Early, Port, Turn, Restart}
use Rattle.judge.specs.declared.joining.Joining.TheVariants.{Any, Between, After}

-- ---- a line without frames

-- a sub-VL without frames: its first message has an identification of the sub-VL, or by ARINC 664 alone any one
abbrev pub new_sub : Bool → Bool → ℕ → Sub
new_sub late arinc sub = record {
  joining = if late then Any else (if arinc then After None else Between sub);
  came = 0;
  due = false;
}

abbrev pub new_line : Bool → Bool → Line
new_line late arinc = record {
  last = None;
  figures = no_figures;
  subs = new_sub late arinc 0 ∷ new_sub late arinc 1 ∷ new_sub late arinc 2 ∷ new_sub late arinc 3 ∷ [];
}

-- a sub-VL without any knowledge of its message
abbrev pub unknown_sub : Sub
unknown_sub = new_sub true false 0

-- the state of one of the four sub-VLs
abbrev pub sub_at : List Sub → ℕ → Sub
sub_at subs sub = get_or subs sub unknown_sub

-- the first sub-VL, among a link's first `count`, without knowledge of its message
abbrev pub unknown_place : ℕ → List Sub → Option ℕ
unknown_place count subs = position (λ (s : Sub). not (is_some (next_of s.joining))) (take count subs)

-- The knowledge of a frame's message if its sub-VL is none of the four: the frame begins a message, or may be any piece
-- if the message of one of the link's sub-VLs isn't known.
abbrev pub other_joining : ℕ → List Sub → Joining
other_joining count subs = if is_some (unknown_place count subs) then Any else After None

-- the knowledge of a frame's message
abbrev pub joining_at : ℕ → ℕ → List Sub → Joining
joining_at count sub subs = if nat_lt sub 4 then (sub_at subs sub).joining else other_joining count subs

-- ---- numbers and gaps

-- the sequence number after one (ARINC 664 Part 7, redundancy)
abbrev pub number_after : ℕ → ℕ
number_after number = if nat_eq number 255 then 1 else number + 1

-- the number of the next frame; the first one has 0, or any number if the recording began late
abbrev pub next_number : Bool → Option Last → Option ℕ
next_number late (Some last) = Some (number_after last.number)
next_number late None = if late then None else Some 0

-- The kind of a number that isn't the next one. Only a transmitter that starts sends 0 (ARINC 664 Part 7, redundancy),
-- so a link that was heard before has restarted. After 255 a 0 is taken for a count that goes on wrong.
abbrev pub number_kind : ℕ → Option Last → FindingKind
number_kind number None = Number
number_kind number (Some last) = if nat_eq number 0 && not (nat_eq last.number 255) then Restart else Number

abbrev pub number_unless : FindingKind → ℕ → Option ℕ → Option Deviation
number_unless kind seen None = None
number_unless kind seen (Some wanted) = if nat_eq seen wanted then None else Some (deviation kind seen wanted)

abbrev pub number_deviation : Bool → ℕ → Line → Option Deviation
number_deviation late number line =
    number_unless (number_kind number line.last) number (next_number late line.last)

-- the time since the last frame
abbrev pub gap_since : ℕ → Option Last → Option ℕ
gap_since at last = option_map (λ (l : Last). at - l.at) last

-- A link releases its frames a gap apart or more, and each is recorded at its release or at most the jitter later. A
-- frame's delay is the longest one that the frames so far leave it: it was released that much before its time, or
-- later, and the next one a gap after that, or later. The next one is early if that is after its time, and then counts
-- as released at its time.
abbrev pub early_since : ℕ → ℕ → Option Last → Option Deviation
early_since gap at None = None
early_since gap at (Some last) = if nat_le (last.at + gap) (at + last.delay) then None
    else Some (deviation Early (at - last.at) (gap - last.delay))

abbrev pub delay_after : Measure → ℕ → Option Last → ℕ
delay_after measure at None = measure.jitter
delay_after measure at (Some last) = min (at + last.delay - (last.at + measure.gap)) measure.jitter

abbrev pub early_deviation : ℕ → ℕ → Line → Option Deviation
early_deviation gap at line = early_since gap at line.last

-- ---- frames that may have been lost, and turns

-- the four sub-VLs, each changed
abbrev pub each : (Sub → Sub) → List Sub → List Sub
each f subs = f (sub_at subs 0) ∷ f (sub_at subs 1) ∷ f (sub_at subs 2) ∷ f (sub_at subs 3) ∷ []

-- a sub-VL after frames that may have been lost: nothing is known of its message
abbrev pub unsettled_sub : Sub → Sub
unsettled_sub sub = record sub { joining = Any; due = false }

abbrev pub unsettled : Line → Line
unsettled line = record line { subs = each unsettled_sub line.subs }

-- a line after a restart: each sub-VL begins its messages anew, as at the start
abbrev pub restarted : Bool → Line → Line
restarted arinc line = record line { subs = (new_line false arinc).subs }

abbrev pub is_restart : FindingKind → Bool
is_restart Restart = true
is_restart _ = false

abbrev pub excused_sub : Sub → Sub
excused_sub sub = record sub { due = false }

abbrev pub excused : Line → Line
excused line = record line { subs = each excused_sub line.subs }

-- the sub-VL with a piece due, if a frame of another sub-VL already came since its last frame
abbrev pub due_before : ℕ → List Sub → Option ℕ
due_before came subs = position (λ (s : Sub). s.due && nat_lt s.came came) subs

abbrev pub passed_by : ℕ → List Sub → Option ℕ
passed_by sub subs = due_before (sub_at subs sub).came subs

abbrev pub turn_if : ℕ → Option ℕ → Option Deviation
turn_if sub due = option_map (deviation Turn sub) due

abbrev pub turn_deviation : ℕ → Line → Option Deviation
turn_deviation sub line = turn_if sub (passed_by sub line.subs)

-- the line on which a frame is judged: after a finding on its number, and after a finding on its turn
abbrev pub after_number : Bool → Option Deviation → Line → Line
after_number arinc None line = line
after_number arinc (Some deviation) line =
    if is_restart deviation.kind then restarted arinc line else unsettled line

abbrev pub after_turn : Option Deviation → Line → Line
after_turn None line = line
after_turn (Some deviation) line = excused line

-- ---- a frame

-- the deviation of a first piece that belongs to no port
abbrev pub port_deviation : Fields → Option PortPlan → Option Deviation
port_deviation fields port =
    if nat_lt 0 fields.piece.start || is_some port then None else Some (deviation Port fields.flow.source 0)

-- the sub-VL of a frame, by this project's formula from its identification
abbrev pub sub_in : Fields → ℕ
sub_in fields = fields.piece.ident % 4

-- By ARINC 664 alone: the sub-VL of a first piece's port, or the sub-VL with the message that the piece continues; 4 if
-- none is known.
abbrev pub going_on : Fields → List Sub → Option ℕ
going_on fields subs = position (λ (s : Sub). goes_on fields s.joining) subs

abbrev pub sub_shown : Option PortPlan → Fields → List Sub → ℕ
sub_shown port fields subs = option_map_or (λ (p : PortPlan). p.sub) port (unwrap_or (going_on fields subs) 4)

abbrev pub sub_of : Measure → Option PortPlan → Fields → Line → ℕ
sub_of measure port fields line =
    let numbered = after_number measure.arinc (number_deviation measure.late fields.number line) line in
    if measure.arinc then sub_shown port fields numbered.subs else sub_in fields

abbrev pub figures_with : Arrived → Line → Figures
figures_with arrived line =
    figures_after arrived.len (ends_message arrived.fields) (gap_since arrived.at line.last) line.figures

-- after a piece that isn't the next one nothing is known of the message
abbrev pub joining_after : Bool → Option Deviation → Fields → Option PortPlan → Joining → Joining
joining_after arinc (Some deviation) fields port joining = Any
joining_after arinc None fields port joining = joined arinc fields.piece (head_now port fields joining)

abbrev pub message_after : Bool → Option Deviation → Fields → Option PortPlan → Joining → Option Deviation
message_after arinc (Some deviation) fields port joining = None
message_after arinc None fields port joining = end_deviation arinc fields.piece (head_now port fields joining)

-- the message of a frame's sub-VL, and how its piece isn't the next one
abbrev pub joining_on : Measure → Arrived → Line → Joining
joining_on measure arrived line = joining_at measure.sub_vls arrived.sub line.subs

abbrev pub fragment_on : Measure → Arrived → Line → Option Deviation
fragment_on measure arrived line =
    fragment_deviation measure.arinc measure.room arrived.fields (joining_on measure arrived line)

-- the line with the number and the time of a frame
abbrev pub line_counted : Measure → Arrived → Line → Line
line_counted measure arrived line = record line {
  last = Some (record {
    number = arrived.fields.number;
    at = arrived.at;
    delay = delay_after measure arrived.at line.last;
  });
  figures = figures_with arrived line;
}

-- the line after a frame, after which this is known of its message
abbrev pub line_joined : Measure → Arrived → Joining → Line → Line
line_joined measure arrived joining line = record (line_counted measure arrived line) {
  subs = slice_set line.subs arrived.sub (record {
    joining = joining;
    came = (figures_with arrived line).frames;
    due = arrived.fields.piece.more;
  });
}

-- the line with a frame, from the settled line
unfoldable pub line_with : Measure → Option PortPlan → Arrived → Line → Line
line_with measure port arrived line = line_joined measure arrived
    (joining_after measure.arinc (fragment_on measure arrived line) arrived.fields port
    (joining_on measure arrived line)) line

-- the line on which a frame is judged: after its number, and after its turn
abbrev pub numbered : Measure → Arrived → Line → Line
numbered measure arrived line =
    after_number measure.arinc (number_deviation measure.late arrived.fields.number line) line

abbrev pub settled : Measure → Arrived → Line → Line
settled measure arrived line =
    after_turn (turn_deviation arrived.sub (numbered measure arrived line)) (numbered measure arrived line)

-- By ARINC 664 alone, messages show the sub-VL of a piece: nothing is known of them after a piece that is no message's
-- next one, or belongs to no port.
abbrev pub traced_with : Measure → Option PortPlan → Arrived → Line → Line
traced_with measure port arrived line =
    if measure.arinc && is_some (first_of (port_deviation arrived.fields port) (fragment_on measure arrived line))
    then unsettled (line_with measure port arrived line) else line_with measure port arrived line

-- By ARINC 664 alone a frame of a link may carry ICMP. It has its number and its gap, but is no piece of a message.
abbrev pub is_beside : Measure → Fields → Bool
is_beside measure fields = measure.arinc && fields.icmp

unfoldable pub line_after : Measure → Option PortPlan → Arrived → Line → Line
line_after measure port arrived line =
    if is_beside measure arrived.fields then line_counted measure arrived (numbered measure arrived line)
    else traced_with measure port arrived (settled measure arrived line)

abbrev pub message_on : Measure → Option PortPlan → Arrived → Line → Option Deviation
message_on measure port arrived line =
    message_after measure.arinc (fragment_on measure arrived line) arrived.fields port (joining_on measure arrived line)

-- a deviation of a piece of a message
abbrev pub of_piece : Measure → Arrived → Option Deviation → Option Deviation
of_piece measure arrived deviation = if is_beside measure arrived.fields then None else deviation

-- the deviations of a frame on a line
unfoldable pub verdict : Measure → Option PortPlan → Arrived → Line → Verdict
verdict measure port arrived line = record {
  number = number_deviation measure.late arrived.fields.number line;
  early = early_deviation measure.gap arrived.at line;
  port = of_piece measure arrived (port_deviation arrived.fields port);
  fragment = of_piece measure arrived (fragment_on measure arrived (settled measure arrived line));
  message = of_piece measure arrived (message_on measure port arrived (settled measure arrived line));
  turn = of_piece measure arrived (turn_deviation arrived.sub (numbered measure arrived line));
}
