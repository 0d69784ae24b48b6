-- What is proved of the element record; Theorems states it.
pub mod RecordLaws
pub mod DistinctLaws
pub mod GatheredLaws
pub mod Theorems
pub mod TetrahedronRecord
