-- Laws that the proofs of this crate's functions cite.
pub mod Asked
pub mod Carrying
pub mod Carried
pub mod Heirs
pub mod Quiet
pub mod Somebody
pub mod Arrays
