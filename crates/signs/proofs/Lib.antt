-- What is proved of the sign report.
pub mod SignCountLaws
pub mod VolumeLaws
pub mod PartedLaws
pub mod SignAnswerLaws
pub mod SignedLaws
pub mod Theorems
