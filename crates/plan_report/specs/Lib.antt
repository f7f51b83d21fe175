pub mod AnalysisText
pub mod Queues
pub mod Report
