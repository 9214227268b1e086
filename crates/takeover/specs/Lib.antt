-- What the theorems speak of beside the definitions of the other crates.
pub mod Feeding
pub mod Deeds
pub mod Ends
