pub mod Lines
pub mod Statements
pub mod Obeys
pub mod Valid
pub mod Nodes
