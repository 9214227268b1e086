pub mod Locks
pub mod Model
