-- The page's section "Refusal numbers", and what the place of a refusal means.
pub mod Refusals
pub mod Spots
