-- What the bench makes of the bytes that it reads.
pub mod Rounds
