-- A vertex table, judged.
pub mod Vertices
