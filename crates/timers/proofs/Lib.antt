-- Laws that the proofs of this crate's functions cite, and what a tick is to the rules.
pub mod Dates
pub mod Fits
pub mod Mapped
pub mod Signals
