-- The page's order of cutting.
pub mod Cutting
pub mod StoreLoops
