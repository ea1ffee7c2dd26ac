pub mod Listing
pub mod Statements
pub mod Examples
pub mod Private
