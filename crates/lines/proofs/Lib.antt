-- Laws for this crate's proofs and for its callers'.
pub mod Search
pub mod Behind
pub mod Within
-- How a `Reader` in a local is lent to a callee, and `next_line` is called on it, for a proof by hand. Rattle writes the proofs of
-- `line_from` and `walked_over`, which lend one so, and no proof here cites these laws.
mod Lent
mod Asks
