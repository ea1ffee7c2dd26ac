pub mod Answers
pub mod Lists
pub mod Refusals
pub mod Stores
pub mod Tests
