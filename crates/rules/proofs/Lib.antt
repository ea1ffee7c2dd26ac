pub mod Laws
pub mod Names
pub mod Helds
pub mod Together
pub mod Spans
pub mod Required
