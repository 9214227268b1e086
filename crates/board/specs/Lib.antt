pub mod Board
pub mod Forms
pub mod Deeds
pub mod Code
