-- Laws that the proof of the validity check cites.
pub mod Checked
