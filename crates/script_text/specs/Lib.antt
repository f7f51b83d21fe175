pub mod Command
pub mod Faults
pub mod Lines
pub mod Meaning
pub mod Transcript
