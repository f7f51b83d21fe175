-- The results of a storm over a plan, and the text that is written of it.
use Rattle.std.specs.Prelude.{codes, ℕ, zero, suc, List, [], ◌∷◌, ◌++◌, length, slice_index_or, Bool, if◌then◌else◌, decimal, ◌≡◌, ◌≢◌, ◌<◌, ◌↔◌, ◌*◌, map, Option, Result, Ok, Err, false, IsTrue, ⊤}
use Rattle.afdx_plan.specs.Config.{link_plan_at, Plan}
use Rattle.afdx_plan.specs.declared.link_plan.LinkPlan.{LinkPlan}
use Rattle.status_board.specs.Views.{zeros}
use Rattle.status_board.specs.declared.counts.Counts.{Counts}
use Rattle.storm.specs.declared.storm_report.StormReport.{StormReport}
use Rattle.std.specs.Io.KnownBytes.{Appends}
use Rattle.std.specs.List.{Any}
use Rattle.afdx_plan.specs.declared.port_plan.PortPlan.{PortPlan}
use Rattle.afdx_frame.specs.declared.net.Net.TheVariants.{B}
use Rattle.redundant_mux.specs.Lines.{side}
use Rattle.afdx_legal.specs.Accepted.{IsHandedWhole}
use Rattle.afdx_legal.specs.Legal.{on_both}
use Rattle.storm.specs.declared.fault.StormFault.{StormFault}
use Rattle.storm.specs.declared.fault.StormFault.TheVariants.{Short}
use Rattle.storm.specs.Threads.{all_counts}
use Rattle.storm.specs.Workers.{own_messages}

-- the counts of a link
unfoldable pub link_line : ℕ → Counts → List ℕ
link_line id counts = codes "link " ++ decimal id ++ codes ": frames " ++ decimal counts.frames
    ++ codes ", bytes " ++ decimal counts.bytes ++ codes ", messages " ++ decimal counts.messages ++ 10 ∷ []

-- the counts at a place
abbrev pub counts_at : List Counts → ℕ → Counts
counts_at counts k = slice_index_or counts k zeros

-- the lines of the first links' counts
abbrev pub link_lines_to : List LinkPlan → List Counts → ℕ → List ℕ
link_lines_to links counts zero = []
link_lines_to links counts (suc k) =
    link_lines_to links counts k ++ link_line (link_plan_at links k).id.0 (counts_at counts k)

-- the text of the totals: the accepted messages, the counts of each link, whether both networks have the same frames,
-- and whether a count was seen to fall
unfoldable pub totals_text : List LinkPlan → ℕ → List Counts → Bool → Bool → List ℕ
totals_text links accepted counts equal back = (codes "accepted " ++ decimal accepted ++ 10 ∷ [])
    ++ link_lines_to links counts (length links)
    ++ (codes "networks " ++ (if equal then codes "equal" else codes "differ") ++ 10 ∷ [])
    ++ codes "watcher " ++ (if back then codes "back" else codes "never back") ++ 10 ∷ []

-- of a report
abbrev pub totals_of : List LinkPlan → StormReport → List ℕ
totals_of links report = totals_text links report.accepted report.links.items report.equal report.back

-- the greatest message of some port is below 6 bytes
abbrev pub HasShortPort : Plan → Type 0
HasShortPort plan = Any (λ (port : PortPlan). port.max < 6) plan.ports

-- the answer is Short
abbrev pub IsShort : {T : Type 0} → Result T StormFault → Type 0
IsShort {T} (Ok report) = ⊥
IsShort {T} (Err fault) = fault ≡ Short

-- The report of a storm over a plan, each of whose ports sent its messages 1 to n: exactly these were accepted and
-- legally transmitted, every fragment of them; the last readings are the counts of each link's own stream; no count was
-- seen to fall; and the networks are equal if and only if their frames of links on both are twins, entry by entry.
pub record IsReportOf (plan : Plan) (n : ℕ) (report : StormReport) : Type 0 where
  pub whole : IsHandedWhole plan (own_messages plan n) report.a.handed report.b.handed
  pub accepted : report.accepted ≡ length plan.ports * n
  pub links : report.links.items ≡ all_counts plan.links report.a.handed report.b.handed
  pub never_back : report.back ≡ false
  pub equal : IsTrue report.equal ↔ (on_both plan.links report.b.handed
      ≡ map (side B) (on_both plan.links report.a.handed))

-- The text of a storm's report was written, over a plan without a port that is too short.
pub record ReportsPlan (plan : Plan) (n : ℕ) (old new : Option (List ℕ)) : Type 0 where
  pub long : HasShortPort plan → ⊥
  pub report : StormReport
  pub of : IsReportOf plan n report
  pub wrote : Appends old new (totals_of plan.links report)
