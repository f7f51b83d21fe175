mod Names
pub mod SameCells
pub mod Spent
pub mod Whole
