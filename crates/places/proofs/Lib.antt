-- What is proved of the looked-up places.
pub mod PlaceTableLaws
pub mod Theorems
