-- What an accepted call knows, the step of each kind of call, and the laws that the proofs of this crate's functions and of its callers cite.
mod Accepted
mod Done
pub mod Together
