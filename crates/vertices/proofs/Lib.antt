-- What is proved of the vertex table.
pub mod VertexLaws
pub mod Theorems
