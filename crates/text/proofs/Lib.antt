pub mod Laws
pub mod Statements
