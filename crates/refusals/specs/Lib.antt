-- The definitions that this crate's contracts cite beside those of the rules.
pub mod ByKind
pub mod Assuming
