-- The page's order of judging a table, and what it asks of a table.
pub mod Judge
pub mod Judgement
pub mod Acceptance
pub mod FirstPair
pub mod Chained
pub mod Marks
