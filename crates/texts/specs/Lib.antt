-- What the words of a list of tests stand for.
pub mod Words
