-- The laws of the exclusion table, for this crate's proof and for other crates.
pub mod Table
