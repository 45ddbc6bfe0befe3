-- What document 01 says of numbers in a line: upper-case hexadecimal.
pub mod Digits
