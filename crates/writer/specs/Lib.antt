pub mod Writer
pub mod Forest
pub mod RoundTrip
pub mod Writable
pub mod Answers
pub mod Examples
