-- What other crates' proofs cite of the operations, and document 01's traps.

pub mod Over
pub mod Flags
pub mod Going
pub mod Leaving
pub mod Landing
pub mod Passing
pub mod Putting
pub mod Coming
pub mod Chains
pub mod Inserting
pub mod Joining
pub mod Refusing
pub mod Listing
pub mod Adopting
pub mod Ordering
pub mod Bundles
pub mod Replacing
pub mod Closing
pub mod Renewing
pub mod Deleting
pub mod Shedding
pub mod Papers
pub mod Traps
