pub mod Headers
pub mod Rows
pub mod Stages
pub mod Properties
pub mod Bodies
pub mod Unique
pub mod Within
pub mod OneBody
