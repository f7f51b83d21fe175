pub mod Import
pub mod Schedule
