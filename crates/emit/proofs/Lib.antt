pub mod Headers
pub mod Sizes
pub mod Measuring
pub mod Nodes
pub mod Whole
