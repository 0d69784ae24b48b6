-- The words in which the promises of several entries are stated.
pub mod Tables
pub mod ReadBack
pub mod OwnOutput
