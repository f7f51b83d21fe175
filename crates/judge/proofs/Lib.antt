pub mod Pairs
pub mod Places
pub mod Names
pub mod Apart
pub mod Exchange
