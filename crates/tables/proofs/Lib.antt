-- Laws that the proofs of this crate's functions cite, and those of the crates above it.
pub mod Fills
pub mod Every
pub mod Configured
pub mod Lengths
