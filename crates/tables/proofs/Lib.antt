-- What is proved of judging the records of a table.
pub mod CleanRecordLaws
pub mod JudgedRecordLaws
pub mod Theorems
