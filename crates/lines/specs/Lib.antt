-- What document 01 says of lines: where a line ends, and where the next one begins.
pub mod Ends
pub mod Reading
