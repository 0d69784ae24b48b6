-- How the records of a table are judged.
pub mod JudgedRecords
