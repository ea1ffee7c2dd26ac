pub mod Forest
pub mod Rows
pub mod Layout
pub mod Laws
pub mod Examples
