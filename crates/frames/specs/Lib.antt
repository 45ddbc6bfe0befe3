-- What document 01 says of a call line, of the call in it, and of the answer line.
pub mod Calls
pub mod TwoDigits
pub mod CallLine
pub mod Answers
