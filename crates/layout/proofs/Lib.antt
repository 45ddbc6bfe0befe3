-- Laws of a table in a block: for this crate's functions, and for those that make calls on blocks.
pub mod Back
pub mod Sizes
pub mod Tables
pub mod Lengths
pub mod Reading
pub mod Writing
pub mod Staying
pub mod PartLengths
mod Unused
