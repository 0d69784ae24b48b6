-- The cut of a judged table, as keys and sizes.
pub mod Blocks
pub mod BlockLoops
