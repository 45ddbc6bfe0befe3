-- Laws for this crate's proofs and for its callers'.
pub mod Hexadecimal
pub mod Put
pub mod Folds
