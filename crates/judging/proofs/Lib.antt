-- What is proved of judging a table.
pub mod MisfitLaws
pub mod ChainLaws
pub mod TableVerdictLaws
pub mod AcceptedTableLaws
pub mod AcceptanceLaws
pub mod JudgeAnswerLaws
pub mod Theorems
