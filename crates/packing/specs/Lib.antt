-- Numbers in bytes, the parts of a lent block of bytes, and an answer as one number.
pub mod Bytes
pub mod Timers
pub mod Widths
pub mod Answers
