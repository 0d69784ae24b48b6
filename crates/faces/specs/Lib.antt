-- A face in the code, as the definitions have it.
pub mod Faces
