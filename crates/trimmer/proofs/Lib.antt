pub mod Loops
pub mod Without
pub mod Answers
pub mod Trimming
