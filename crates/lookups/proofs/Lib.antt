-- Laws of the reads: what every function that tests a state cites (Verdicts), and those of the code's proofs.
pub mod Verdicts
pub mod Presents
pub mod Walk
pub mod Follow
pub mod Visits
pub mod Papers
