-- What is proved of the fit of two elements.
pub mod FaceSearchLaws
pub mod TwoEndsLaws
pub mod Theorems
