pub mod Bytes
pub mod Table
pub mod Answers
pub mod Code
