mod FeedLemmas
mod LineLemmas
mod MarkLemmas
mod MeaningLemmas
mod WordLemmas
pub mod Written
pub mod Names
