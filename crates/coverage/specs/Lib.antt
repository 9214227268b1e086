pub mod Coverage
pub mod Code
