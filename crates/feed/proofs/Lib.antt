pub mod Stepping
pub mod Words
pub mod Turning
pub mod Running
pub mod Chunks
