-- The definitions that this crate's contract cites: a log of calls on a table, and on a block.
pub mod Log
pub mod Replay
