pub mod Lookup
pub mod Statements
pub mod Examples
