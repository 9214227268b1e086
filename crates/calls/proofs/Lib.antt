pub mod Unsound
pub mod Normal
