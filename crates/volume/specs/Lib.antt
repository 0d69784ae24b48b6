-- The page's sixfold volume of four points, and what the determinant asks of its rows.
pub mod Volume
pub mod RowLoops
