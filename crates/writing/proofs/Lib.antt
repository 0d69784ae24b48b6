-- What is proved of the record writers; Theorems states it.
pub mod DecimalLaws
pub mod PutLaws
pub mod WrittenLaws
pub mod WriteLaws
pub mod Theorems
