pub mod Spelling
pub mod Files
