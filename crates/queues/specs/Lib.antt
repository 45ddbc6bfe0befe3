-- The definitions that this crate's contracts cite.
pub mod Gaps
pub mod Places
pub mod Zeros
