-- What is proved of cutting.
pub mod StoreLaws
pub mod CutAnswerLaws
pub mod Theorems
