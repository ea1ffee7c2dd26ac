pub mod Answers
pub mod Lent
pub mod Reasons
pub mod Whole
