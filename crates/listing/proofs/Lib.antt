pub mod Laws
pub mod Lengths
pub mod Whole
pub mod Listed
pub mod Statements
