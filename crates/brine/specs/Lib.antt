-- What the front for C answers: the page's numbers, in an array and as the returned number.
pub mod Front
pub mod FrontLoops
pub mod Entries
