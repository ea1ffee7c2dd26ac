pub mod Examples
pub mod Letters
pub mod Limits
pub mod Lists
pub mod Refusals
