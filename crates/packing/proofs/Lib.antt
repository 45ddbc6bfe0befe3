-- Laws of numbers in bytes: written and read again, for callers; one by one and in loops, for the functions of this crate.
pub mod RoundTrips
mod OneNumber
mod Loops
