-- The page's element record, and how it is judged.
pub mod Record
pub mod Elements
pub mod WholeRecords
