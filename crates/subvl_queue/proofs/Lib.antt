mod Names
pub mod Totals
pub mod Cells
pub mod Parts
pub mod Honest
pub mod Moves
pub mod Telling
pub mod Seats
pub mod Senders
pub mod Rooms
pub mod Lies
