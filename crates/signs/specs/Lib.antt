-- The page's order of the sign report.
pub mod Signs
pub mod SignLoops
