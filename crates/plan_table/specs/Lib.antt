pub mod Table
pub mod Sum
pub mod Reading
pub mod Rules
pub mod Laws
