-- The definitions that contracts cite beside those of the rules.
pub mod Fronts
pub mod Fresh
