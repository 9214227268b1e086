pub mod Refusals
pub mod Image
pub mod Steps
pub mod Code
pub mod Ranges
pub mod Held
