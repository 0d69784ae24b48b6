-- What is proved of refusals.
pub mod Theorems
pub mod RefusalLaws
