pub mod Capture
pub mod Order
pub mod ReadBack
pub mod Units
pub mod Interfaces
pub mod Losses
pub mod Recording
pub mod Streaming
