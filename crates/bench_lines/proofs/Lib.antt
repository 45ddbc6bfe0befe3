-- Laws for this crate's proofs and for its callers'.
pub mod Plain
pub mod Configuration
pub mod LineDone
pub mod Assuming
pub mod FirstFound
pub mod LaterLines
