pub mod Faces
pub mod Examples
pub mod Private
