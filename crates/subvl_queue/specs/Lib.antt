pub mod Messages
pub mod Queue
pub mod Steps
pub mod Views
