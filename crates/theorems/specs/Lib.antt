-- What is shown of the rules, as statements that can be read without their proofs.
pub mod Kept
pub mod Listed
pub mod Happenings
pub mod Refused
pub mod Running
pub mod Urgency
pub mod Lines
pub mod Along
pub mod Former
pub mod Displaced
pub mod Tasks
