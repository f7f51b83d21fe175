-- The first rule that a plan breaks.
use Rattle.std.specs.Prelude.{◌≡◌, ℕ, ◌-◌, ◌<◌, List, [], ◌∷◌, Bool, true, false, count_by, find, if◌then◌else◌, nat_le, Option, option_map, Some, None, take}
use Rattle.afdx_plan.specs.Config.{Plan}
use Rattle.afdx_plan.specs.PlanFaults.{breaks, Cells, fault_number, is_row_of, link_whole, misfits, on_sub_of, plan_shows, PlanRule, port_whole, same_flow, same_link, same_port, share_unicast}
use Rattle.afdx_plan.specs.declared.fault.ConfigFault.{ConfigFault}
use Rattle.afdx_plan.specs.declared.link_plan.LinkPlan.{LinkPlan}
use Rattle.afdx_plan.specs.declared.port_plan.PortPlan.{PortPlan}
use Rattle.afdx_plan.specs.declared.rows.Misfit.{Misfit}
use Rattle.afdx_plan.specs.declared.rows.PortRow.{PortRow}
use Rattle.plan_table.specs.declared.rules.Clash.{Clash}
use Rattle.plan_table.specs.declared.rules.Clash.TheVariants.{Identifier, Flow, Address}

-- the rules of two ports that clash
abbrev pub clashes : Clash → PortRow → PortRow → Bool
clashes Identifier = same_port
clashes Flow = same_flow
clashes Address = share_unicast

-- ---- the tests of rules, over links and ports of a plan

abbrev pub clash : Clash → PortPlan → PortPlan → Bool
clash how a b = clashes how (port_whole a) (port_whole b)

abbrev pub are_one_link : LinkPlan → LinkPlan → Bool
are_one_link a b = same_link (link_whole a) (link_whole b)

-- the link has the identifier that the port names
abbrev pub names : PortPlan → LinkPlan → Bool
names port link = is_row_of (port_whole port) (link_whole link)

abbrev pub misfit_in : List LinkPlan → Misfit → PortPlan → Bool
misfit_in links misfit port = misfits true (option_map link_whole (find (names port) links)) misfit (port_whole port)

abbrev pub shares_sub : PortPlan → PortPlan → Bool
shares_sub a b = on_sub_of (port_whole a) (port_whole b)

-- port k is past the 64th on its sub-VL
abbrev pub is_past : List PortPlan → ℕ → PortPlan → Bool
is_past ports k port = nat_le 64 (count_by (shares_sub port) (take (k - 1) ports))

-- the fault of the first rule that links and ports break
abbrev pub first_broken : Cells → List PlanRule → Option ConfigFault
first_broken cells [] = None
first_broken cells (r ∷ rules) = if breaks cells r.forbids then Some r.fault else first_broken cells rules

-- the fault of the least number that a plan has
abbrev pub IsLeastShown : ConfigFault → Plan → Type 0
IsLeastShown fault plan = (plan_shows fault plan ≡ true)
    × ((other : ConfigFault) → fault_number other < fault_number fault → plan_shows other plan ≡ false)
