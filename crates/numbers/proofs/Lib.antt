-- What is proved of reading numbers.
pub mod PartLaws
pub mod Theorems
