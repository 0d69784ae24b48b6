-- What is proved of tetrahedra and their keys.
pub mod KeyLaws
pub mod Theorems
