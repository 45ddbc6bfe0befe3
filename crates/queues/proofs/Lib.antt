-- Laws that the proofs of this crate's functions cite, and what a part of the store means to a table.
pub mod Scans
pub mod Found
pub mod Gaps
pub mod Places
