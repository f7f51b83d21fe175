pub mod Calls
pub mod Kept
pub mod Links
pub mod Seen
pub mod Turn
