-- What is proved of the edges of an element.
pub mod EdgeLaws
pub mod Theorems
