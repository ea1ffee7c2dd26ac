pub mod Table
pub mod Packing
pub mod Rules
pub mod Examples
