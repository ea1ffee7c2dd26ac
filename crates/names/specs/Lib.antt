pub mod Examples
pub mod Names
