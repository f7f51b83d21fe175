mod LogLemmas
pub mod MirroredLines
