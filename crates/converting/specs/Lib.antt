-- What the program writes for an input, and what converting says.
pub mod Conversion
pub mod Converting
pub mod ConversionLoops
pub mod Program
