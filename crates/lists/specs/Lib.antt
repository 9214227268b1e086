pub mod Tests
pub mod Lists
pub mod Below
pub mod Places
pub mod Papers
