pub mod Rest
pub mod Laws
pub mod Rows
pub mod Among
pub mod Statements
