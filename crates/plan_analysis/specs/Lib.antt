pub mod Load
pub mod Wait
pub mod Traffic
pub mod KeptPeriods
pub mod Memory
pub mod Analysis
