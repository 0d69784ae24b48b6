-- What is proved of the numbers of the page.
pub mod Theorems
