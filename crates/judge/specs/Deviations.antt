-- Deviations of frames, and the findings of packets.
use Rattle.std.specs.Prelude.{ℕ, List, [], ◌∷◌, ◌++◌, Option, Some, None}
use Rattle.std.specs.Option.{option_or}
use Rattle.judge.specs.Types.{Deviation, Finding, FindingKind, Tag, VlId}
use Rattle.judge.specs.declared.finding.FindingKind.TheVariants.{Frame, Source, Link, Network, Size, Number, Early, Port, Fragment, Message, Turn, Twin, Missing, Restart}

-- the number of a kind
abbrev pub kind_number : FindingKind → ℕ
kind_number (Frame rule) = 1
kind_number Source = 2
kind_number Link = 3
kind_number Network = 4
kind_number Size = 5
kind_number Number = 6
kind_number Early = 7
kind_number Port = 8
kind_number (Fragment misfit) = 9
kind_number (Message ending) = 10
kind_number Turn = 11
kind_number Twin = 12
kind_number Missing = 13
kind_number Restart = 14

abbrev pub deviation : FindingKind → ℕ → ℕ → Deviation
deviation kind seen wanted = record { kind = kind; seen = seen; wanted = wanted }

-- the first of two deviations
abbrev pub first_of : Option Deviation → Option Deviation → Option Deviation
first_of one other = option_or one other

-- a packet's finding
abbrev pub finding_of : Tag → Option VlId → Deviation → Finding
finding_of tag link d = record {
  kind = d.kind;
  packet = tag.packet;
  net = tag.net;
  at = tag.at;
  link = link;
  seen = d.seen;
  wanted = d.wanted;
}

-- a list of findings, with a packet's appended, if there is one
abbrev pub with_finding : Tag → Option VlId → Option Deviation → List Finding → List Finding
with_finding tag link None found = found
with_finding tag link (Some d) found = found ++ finding_of tag link d ∷ []
