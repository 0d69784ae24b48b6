-- What is proved of the blocks of a table.
pub mod InsertLaws
pub mod LowestPlaceLaws
pub mod ChoiceLaws
pub mod BlockLaws
pub mod FanLaws
pub mod RowTetLaws
pub mod RowBounds
pub mod CornerLaws
pub mod RecordCutLaws
pub mod FillLaws
pub mod BlocksAnswerLaws
pub mod CutNumberLaws
pub mod Theorems
