pub mod Paths
pub mod Judging
