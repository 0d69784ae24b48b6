-- Words that every room uses: lists, a text cut at a byte, lent memory, searches, sizes of signed numbers.
pub mod Words
pub mod Pieces
pub mod Lent
pub mod Searches
pub mod Sizes
