pub mod Rule
pub mod Views
