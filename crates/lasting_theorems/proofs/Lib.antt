-- The proofs of what `specs/` states.
pub mod Holding
pub mod Balanced
pub mod Entered
pub mod Lasting
pub mod Delays
pub mod Examples
pub mod Premises
