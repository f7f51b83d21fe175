pub mod Address
pub mod Config
pub mod Demo
pub mod Plan
pub mod PlanFaults
