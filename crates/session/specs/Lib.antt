-- What document 01 says of a bench session: its lines one after the other, the end of its input, the whole run; and what is shown of it.
pub mod Lines
pub mod Walk
pub mod Feed
pub mod Ending
pub mod Run
pub mod Pieces
pub mod Theorems
