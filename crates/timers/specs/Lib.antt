-- The definitions that this crate's contracts cite.
pub mod Fits
pub mod Signals
pub mod Effects
