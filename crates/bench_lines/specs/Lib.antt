-- What document 01 says of the bench's lines: how a session begins, what each line does, and the line that begins at a place.
pub mod Start
pub mod First
pub mod Steps
pub mod Assuming
pub mod Places
