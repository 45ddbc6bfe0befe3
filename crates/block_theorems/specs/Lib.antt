-- What is shown of the table in a block of bytes, as statements that can be read without their proofs.
pub mod Ranges
pub mod Packed
pub mod Answers
pub mod Kept
pub mod Happenings
