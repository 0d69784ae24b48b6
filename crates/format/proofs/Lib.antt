-- What is proved of the text file as it is defined.
pub mod FileSampleLaws
pub mod CutLaws
pub mod NumberLaws
pub mod MarkLaws
pub mod FieldLaws
pub mod LineLaws
pub mod FileLaws
pub mod FileRecordLaws
pub mod GoodLineLaws
pub mod AcceptedFileLaws
pub mod StoredRecordLaws
pub mod CommaLaws
pub mod Theorems
