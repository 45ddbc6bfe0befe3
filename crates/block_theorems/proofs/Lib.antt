-- The proofs of what `specs/` states.
pub mod Fitting
pub mod Layouts
pub mod Packs
pub mod Elements
pub mod Answers
pub mod Kept
pub mod Order
