pub mod Emission
pub mod Private
pub mod Examples
