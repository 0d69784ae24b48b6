-- What is proved of the program.
pub mod InputLaws
pub mod RespondingLaws
pub mod Theorems
