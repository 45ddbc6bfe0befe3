-- Laws that the proofs of this crate's functions cite.
pub mod Holders
pub mod Bits
