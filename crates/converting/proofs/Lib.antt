-- What is proved of the conversion.
pub mod PutTextLaws
pub mod GoodTableLaws
pub mod MeshTextLaws
pub mod ConvertLaws
pub mod CutLaws
pub mod ReadingLaws
pub mod ConversionLaws
pub mod ShortLaws
pub mod PlaceLaws
pub mod Theorems
