-- The table in a block of bytes: the layout, the three calls on a block, and the parts as they are read and written.
pub mod Layout
pub mod Calls
pub mod Fronts
pub mod Heads
pub mod Wholes
