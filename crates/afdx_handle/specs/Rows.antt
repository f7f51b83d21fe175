-- Findings and the ends of reading captures, as C has them.
use Rattle.std.specs.Prelude.{ℕ, ◌^◌, ◌-◌, length, nat_eq, nat_lt, not, if◌then◌else◌}
use Rattle.std.specs.Option.{option_map_or}
use Rattle.afdx_frame.specs.declared.layout.Layout.{Layout}
use Rattle.afdx_frame.specs.declared.layout.Layout.TheVariants as layout
use Rattle.afdx_frame.specs.declared.net.Net.TheVariants.{A, B}
use Rattle.capture.specs.Recording.{Recording}
use Rattle.capture.specs.declared.stop.CaptureEnd.{CaptureEnd}
use Rattle.capture.specs.declared.stop.CaptureEnd.TheVariants.{Whole, CutOff, Broken}
use Rattle.capture.specs.declared.stop.Fault.{Fault}
use Rattle.capture.specs.declared.stop.Fault.TheVariants as fault
use Rattle.judge.specs.Deviations.{kind_number}
use Rattle.judge.specs.Types.{Net, VlId}
use Rattle.judge.specs.declared.finding.Ending.{Ending}
use Rattle.judge.specs.declared.finding.Finding.{Finding}
use Rattle.judge.specs.declared.finding.FindingKind.{FindingKind}
use Rattle.judge.specs.declared.finding.FragmentMisfit.{FragmentMisfit}
use Rattle.judge.specs.declared.judge.Options.{Options}
use Rattle.judge.specs.declared.finding.Ending.TheVariants as ending
use Rattle.judge.specs.declared.finding.FindingKind.TheVariants.{Frame, Fragment, Message}
use Rattle.judge.specs.declared.finding.FragmentMisfit.TheVariants as misfit
use Rattle.afdx_handle.specs.declared.judging.Captured.{Captured}
use Rattle.afdx_handle.specs.declared.judging.FindingRow.{FindingRow}
use Rattle.afdx_handle.specs.declared.judging.JudgeOptions.{JudgeOptions}

-- the options of the judge; a flag is on if it isn't 0
abbrev pub options_of : JudgeOptions → Options
options_of how = record {
  jitter = how.jitter;
  skew = how.skew;
  late = not (nat_eq how.late 0);
  fcs = not (nat_eq how.fcs 0);
  arinc = not (nat_eq how.arinc 0);
}

-- the numbers of rules
abbrev pub layout_number : Layout → ℕ
layout_number layout.Time = 1
layout_number layout.Snapped = 2
layout_number layout.CheckSequence = 3
layout_number layout.Recorded = 4
layout_number layout.Length = 5
layout_number layout.DestinationMac = 6
layout_number layout.SourceMac = 7
layout_number layout.Interface = 8
layout_number layout.EtherType = 9
layout_number layout.Version = 10
layout_number layout.TotalLength = 11
layout_number layout.Fragment = 12
layout_number layout.Protocol = 13
layout_number layout.HeaderSum = 14
layout_number layout.SourceAddress = 15
layout_number layout.DestinationAddress = 16
layout_number layout.Padding = 17

abbrev pub misfit_number : FragmentMisfit → ℕ
misfit_number misfit.Offset = 1
misfit_number misfit.Identification = 2
misfit_number misfit.Addresses = 3
misfit_number misfit.Length = 4
misfit_number misfit.Repeated = 5

abbrev pub ending_number : Ending → ℕ
ending_number ending.UdpLength = 1
ending_number ending.Size = 2
ending_number ending.UdpChecksum = 3

-- the number of a kind's rule, 0 if the kind has none
abbrev pub rule_number : FindingKind → ℕ
rule_number (Frame rule) = layout_number rule
rule_number (Fragment rule) = misfit_number rule
rule_number (Message rule) = ending_number rule
rule_number _ = 0

abbrev pub net_number : Net → ℕ
net_number A = 0
net_number B = 1

-- a finding as C has it: a time over 2 ^ 64 - 1 nanoseconds becomes that one, and a missing link a number that no link
-- has
abbrev pub row_of : Finding → FindingRow
row_of f = record {
  packet = f.packet;
  at = if nat_lt f.at (2 ^ 64) then f.at else 2 ^ 64 - 1;
  seen = f.seen;
  wanted = f.wanted;
  vl = option_map_or (λ (vl : VlId). vl.0) f.link (2 ^ 16);
  network = net_number f.net;
  kind = kind_number f.kind;
  rule = rule_number f.kind;
}

-- the number of a capture's fault, from 2 on
abbrev pub capture_number : Fault → ℕ
capture_number fault.Format = 2
capture_number fault.ByteOrder = 3
capture_number fault.Version = 4
capture_number fault.Length = 5
capture_number fault.TooLong = 6
capture_number fault.EndLength = 7
capture_number fault.LinkType = 8
capture_number fault.BadOption = 9
capture_number fault.Interfaces = 10
capture_number fault.Obsolete = 11
capture_number fault.NoInterface = 12
capture_number fault.Captured = 13
capture_number fault.Time = 14

-- the end of reading a capture in the layout of C: the number of its packets, how it ends, and at which byte
abbrev pub ended : ℕ → CaptureEnd → Captured
ended packets Whole = record { packets = packets; at = 0; end = 0 }
ended packets (CutOff place) = record { packets = packets; at = place; end = 1 }
ended packets (Broken place fault) = record { packets = packets; at = place; end = capture_number fault }

abbrev pub captured_of : Recording → Captured
captured_of read = ended (length read.packets) read.end
