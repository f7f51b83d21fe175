pub mod Storms
pub mod Threads
pub mod Workers
