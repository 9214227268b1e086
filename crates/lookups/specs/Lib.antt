pub mod Papers
pub mod Reads
pub mod Code
