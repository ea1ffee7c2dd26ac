pub mod Trimmer
pub mod RefusedFile
pub mod Tally
pub mod Left
pub mod Numbers
pub mod RemovalSequence
pub mod Examples
