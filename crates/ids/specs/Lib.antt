pub mod Order
pub mod Words
