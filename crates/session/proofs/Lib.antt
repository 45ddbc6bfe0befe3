-- Laws for this crate's proofs and for its callers', and the theorem of the run in parts.
pub mod Cuts
pub mod NextLines
pub mod Walk
pub mod PieceLoop
pub mod FirstAnswer
pub mod Ending
pub mod Buffers
pub mod Rooms
pub mod Parts
pub mod Lost
