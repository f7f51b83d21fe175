-- Results of reading the text of a plan.
use Rattle.std.specs.Prelude.{◌≡◌, ◌≢◌, ◌==◌, if◌then◌else◌, ◌*◌, ◌^◌, ℕ, List, Option, ⊤}
use Rattle.std.specs.Io.KnownBytes.{Appends}
use Rattle.plan_report.specs.Report.{report_of}
use Rattle.bench_words.specs.declared.status.End.{End}
use Rattle.bench_words.specs.declared.status.End.TheVariants.{Told, FaultsTold}
use Rattle.bench_words.specs.declared.status.Failure.{Failure}
use Rattle.bench_words.specs.declared.status.Failure.TheVariants.{Config, Run}
use Rattle.afdx_plan.specs.Config.{Plan}
use Rattle.afdx_config.specs.Faults.{IsPlanOf, IsLeastFault}
use Rattle.afdx_plan.specs.declared.fault.ConfigFault.TheVariants.{Memory}
use Rattle.afdx_config.specs.Explained.{Explains}
use Rattle.afdx_config.specs.Findings.{PlanFinding}
use Rattle.script_text.specs.declared.faults.RunFault.TheVariants as Ran

-- the most bytes of a text that is read: 16 MiB
abbrev pub text_limit : ℕ
text_limit = 16 * 2 ^ 20

-- a text is refused with its fault of the least number; an allocation or a read may fail
abbrev pub IsRefusal : List ℕ → Failure → Type 0
IsRefusal text (Config fault) = fault ≢ Memory → IsLeastFault text fault
IsRefusal text (Run Ran.Read) = ⊤
IsRefusal text (Run Ran.Memory) = ⊤
IsRefusal text _ = ⊥

-- the report on the plan of a text was written
pub record Reports (text : List ℕ) (old new : Option (List ℕ)) : Type 0 where
  pub plan : Plan
  pub is_plan : IsPlanOf text plan
  pub wrote : Appends old new (report_of plan)

-- the end of `explain` with this number of findings
abbrev pub end_of : ℕ → End
end_of count = if count == 0 then Told else FaultsTold

-- the findings of a text were written
pub record TellsFaults (text : List ℕ) (end : End) (old new : Option (List ℕ)) : Type 0 where
  pub first : List PlanFinding
  pub count : ℕ
  pub told : List ℕ
  pub explained : Explains text first count told
  pub wrote : Appends old new told
  pub end_is : end ≡ end_of count
