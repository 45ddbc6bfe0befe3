-- The definition that this crate's contracts cite beside those of the rules.
pub mod Replies
