-- What the program says of its input and its output.
pub mod Input
pub mod Responding
