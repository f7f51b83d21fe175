pub mod Choosing
pub mod LinkTurn
pub mod MessageEnds
mod Names
pub mod QueueLooks
pub mod ShownTurns
pub mod SubInStep
pub mod TurnLaws
