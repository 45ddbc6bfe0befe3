-- Laws that the proofs of this crate's functions cite.
pub mod Signals
pub mod States
pub mod Rows
