pub mod Laws
pub mod Header
pub mod Cases
pub mod Within
pub mod Statements
