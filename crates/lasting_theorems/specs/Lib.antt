-- Statements that can be read without their proofs: what lasts (a region through a routine, a signal until it is taken, a delay until its
-- last tick), and demand 3 at work and at its edge.
pub mod Balanced
pub mod Entered
pub mod Lasting
pub mod Delays
pub mod Examples
pub mod Premises
