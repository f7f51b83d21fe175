pub mod Histories
pub mod Steps
pub mod Names
