pub mod Halting
pub mod Reading
pub mod Status
