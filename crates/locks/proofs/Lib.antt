-- What other crates' proofs cite of 001's functions.
pub mod Laws
pub mod Papers
