-- The definitions that this crate's contracts cite.
pub mod Carrying
pub mod Lines
pub mod Named
