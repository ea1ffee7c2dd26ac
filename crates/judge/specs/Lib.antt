pub mod Properties
pub mod Typed
pub mod Missing
pub mod Valued
pub mod Judge
pub mod ByLine
pub mod Private
pub mod Examples
