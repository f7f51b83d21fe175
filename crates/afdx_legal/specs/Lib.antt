pub mod Accepted
pub mod Counting
pub mod Legal
pub mod Streams
pub mod Worked
