-- Laws of tables.
use Rattle.std.specs.Prelude.{◌≡◌, List, ℕ, Result, Ok, Err, IfOk, IfErr, ◌⊎◌}
use Rattle.afdx_plan.specs.Config.{Plan, IsPlan}
use Rattle.afdx_plan.specs.declared.fault.ConfigFault.TheVariants.{Memory}
use Rattle.plan_table.specs.Table.{IsTableOf}
use Rattle.plan_table.specs.Reading.{IsFaultOf}
use Rattle.plan_table.specs.declared.fault.TableFault.{TableFault}
use Rattle.plan_table.specs.declared.fault.TableFault.TheVariants.{Plan as OfPlan}

-- the contract of `read_table`
pub record IsReading (bytes : List ℕ) (result : Result Plan TableFault) : Type 0 where
  pub plan : IfOk result (IsTableOf bytes)
  pub fault : IfErr result (IsFaultOf bytes)

-- the table of a valid plan is read as that plan, if memory doesn't run out
abbrev pub TablesAreRead : Type 0
TablesAreRead = (bytes : List ℕ) (plan : Plan) (result : Result Plan TableFault) → IsPlan plan → IsTableOf bytes plan
    → IsReading bytes result → (result ≡ Ok plan) ⊎ (result ≡ Err (OfPlan Memory))

-- two plans have different tables
abbrev pub TablesDiffer : Type 0
TablesDiffer = (bytes : List ℕ) (one other : Plan) → IsTableOf bytes one → IsTableOf bytes other → one ≡ other
