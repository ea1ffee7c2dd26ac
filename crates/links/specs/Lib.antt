pub mod Links
pub mod Private
pub mod Examples
