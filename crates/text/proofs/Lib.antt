-- What is proved of reading a text file.
pub mod FirstLaws
pub mod KeptLaws
pub mod QuickNumbers
pub mod QuickFields
pub mod QuickLines
pub mod ReadLaws
pub mod StoreLaws
pub mod Theorems
