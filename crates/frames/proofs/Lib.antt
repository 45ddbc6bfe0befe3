-- Laws for this crate's proofs and for its callers'.
pub mod TwoDigits
pub mod CallLine
pub mod Written
