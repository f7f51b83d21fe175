pub mod AsBox
pub mod EndPorts
pub mod PollFrames
pub mod MadeFrames
mod Names
