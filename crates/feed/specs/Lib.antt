pub mod Refusals
pub mod Feed
pub mod Runs
pub mod Code
