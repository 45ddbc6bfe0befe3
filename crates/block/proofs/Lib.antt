-- Laws that the proofs of this crate's functions cite.
pub mod Parts
pub mod Back
pub mod Outcomes
