-- The numbers that the page names.
pub mod Limits
