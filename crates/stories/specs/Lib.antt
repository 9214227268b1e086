pub mod Stories
pub mod Again
pub mod Deeds
