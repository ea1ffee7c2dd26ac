pub mod Rows
pub mod Clearing
pub mod ClearingFrom
pub mod Plans
pub mod Rests
pub mod Counts
pub mod Filled
