-- The page's section "The text file".
pub mod Number
pub mod Line
pub mod File
pub mod Records
pub mod StoredRecords
pub mod GoodFields
pub mod FileSamples
