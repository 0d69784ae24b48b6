-- What is proved of corners and faces.
pub mod FaceLaws
pub mod CodeFaceLaws
pub mod Theorems
