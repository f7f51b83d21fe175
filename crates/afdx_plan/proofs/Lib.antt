pub mod PlanLemmas
pub mod DemoPlan
