pub mod Plan
pub mod Private
pub mod Examples
