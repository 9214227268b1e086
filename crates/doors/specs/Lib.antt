pub mod Reads
pub mod Chains
pub mod Conflicts
pub mod Ends
