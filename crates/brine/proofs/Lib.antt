-- What is proved of the front for C.
pub mod FrontLaws
pub mod Theorems
