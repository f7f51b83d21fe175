pub mod EndSystem
pub mod Play
pub mod AtBench
pub mod Run
pub mod Running
