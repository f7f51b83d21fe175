pub mod Busy
pub mod Ends
pub mod Mates
pub mod Rooms
pub mod Names
pub mod Overload
pub mod WaitRows
pub mod Waits
