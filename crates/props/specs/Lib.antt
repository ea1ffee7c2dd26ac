pub mod Types
pub mod Statements
pub mod Step
pub mod Private
pub mod Examples
