pub mod Counting
pub mod Placing
pub mod Collecting
pub mod Targets
pub mod Resolving
pub mod Turns
pub mod Numbers
