pub mod Walk
pub mod Private
pub mod Statements
pub mod Examples
