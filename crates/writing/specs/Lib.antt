-- The written text of the page's section "The text file", and what the record writers say.
pub mod Written
pub mod Writing
pub mod WriteLoops
