-- The definitions that this crate's contract and laws cite.
pub mod Marks
