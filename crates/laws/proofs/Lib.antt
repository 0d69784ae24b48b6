-- Laws about no mesh: tests, lists, pieces of a text, lent memory, searches, whole numbers.
pub mod TestLaws
pub mod EveryLaws
pub mod TableLaws
pub mod PieceLaws
pub mod LentLaws
pub mod SearchLaws
pub mod LowestLaws
pub mod SizeLaws
pub mod SignLaws
pub mod IntegerLaws
pub mod WordLaws
pub mod PassLaws
pub mod ListLaws
