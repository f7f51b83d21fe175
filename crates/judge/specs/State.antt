-- The types of a judge's state by names that other crates may use: their laws speak of the state, which the judge keeps
-- to itself.
use Rattle.judge.specs.Types as of

abbrev pub Fields : Type 0
Fields = of.Fields

abbrev pub Flow : Type 0
Flow = of.Flow

abbrev pub PieceIn : Type 0
PieceIn = of.PieceIn

abbrev pub Deviation : Type 0
Deviation = of.Deviation

abbrev pub Tag : Type 0
Tag = of.Tag

abbrev pub Head : Type 0
Head = of.Head

abbrev pub Joining : Type 0
Joining = of.Joining

abbrev pub Last : Type 0
Last = of.Last

abbrev pub Arrived : Type 0
Arrived = of.Arrived

abbrev pub Line : Type 0
Line = of.Line

abbrev pub Measure : Type 0
Measure = of.Measure

abbrev pub Sub : Type 0
Sub = of.Sub

abbrev pub Verdict : Type 0
Verdict = of.Verdict

abbrev pub Link : Type 0
Link = of.Link

abbrev pub Setting : Type 0
Setting = of.Setting

abbrev pub Refused : Type 0
Refused = of.Refused

abbrev pub Span : Type 0
Span = of.Span

abbrev pub Times : Type 0
Times = of.Times

abbrev pub Nearness : Type 0
Nearness = of.Nearness
