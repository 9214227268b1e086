-- What other crates' proofs cite of ids.
pub mod Laws
pub mod Words
