-- The definitions that this crate's contracts cite.
pub mod Ranks
pub mod Words
