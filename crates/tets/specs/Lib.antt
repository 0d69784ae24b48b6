-- A tetrahedron and its key.
pub mod Tets
