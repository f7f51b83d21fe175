pub mod CellLemmas
pub mod ReadLemmas
pub mod RuleLemmas
pub mod LawLemmas
