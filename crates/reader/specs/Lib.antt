pub mod Reading
pub mod Private
pub mod Acceptance
pub mod Leaves
pub mod Examples
