pub mod Body
pub mod Examples
