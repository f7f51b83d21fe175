-- The report of a poll.
use Rattle.std.specs.Prelude.{ℕ, ◌≡◌, ◌≤◌, List, [], ◌∷◌, ◌++◌, length, map}
use Rattle.afdx_plan.specs.declared.port_plan.VlId.{VlId}
use Rattle.afdx_frame.specs.Header.{link_in, sub_in, number_in}
use Rattle.redundant_mux.specs.Lines.{Entry, Lines, log}
use Rattle.redundant_mux.specs.declared.mux.Standing.{Standing}
use Rattle.vl_link.specs.declared.link.Served.{Served}
use Rattle.vl_link.specs.declared.link.Served.TheVariants.{Nothing, Released, Lost}
use Rattle.afdx_tx.specs.declared.turns.Release.{Release}
use Rattle.afdx_tx.specs.declared.turns.Report.{Report}
use Rattle.afdx_tx.specs.Emitter.{Tx}

-- the release of an entry
abbrev pub release_of : Entry → Release
release_of e = record {
  vl = record { 0 = link_in e.frame };
  sub = sub_in e.frame;
  number = number_in e.frame;
}

-- the release of one turn
abbrev pub turn_release : VlId → Served → List Release
turn_release vl Nothing = []
turn_release vl (Released sub number) = record { vl = vl; sub = sub; number = number } ∷ []
turn_release vl Lost = []

-- the releases are the new entries of the log, in order, all of this time
pub record IsTold (now : ℕ) (released : List Release) (before lines : Lines) : Type 0 where
  pub entries : List Entry
  pub grown : log lines ≡ log before ++ entries
  pub named : map release_of entries ≡ released
  pub moments : map (λ (e : Entry). e.at) entries ≡ map (λ (e : Entry). now) entries

-- A poll, by its report: `now` is the time of the last poll, and the report has the released frames
-- and the networks that are up.
pub record Polls (now : ℕ) (old : Tx) (report : Report) (new : Tx) : Type 0 where
  pub moment : new.moment ≡ now
  pub released : IsTold now report.released.items old.lines new.lines
  pub a_stands : report.standing.a ≡ new.lines.a_stands
  pub b_stands : report.standing.b ≡ new.lines.b_stands

-- A poll without a report: the networks that are up, and the report that `poll` would make.
pub record PollsUnreported (now : ℕ) (old : Tx) (standing : Standing) (new : Tx) : Type 0 where
  pub report : Report
  pub stands : report.standing ≡ standing
  pub few : length report.released.items ≤ 64
  pub polls : Polls now old report new
