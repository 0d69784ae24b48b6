-- What the room promises, and the laws that its functions' proofs share.
pub mod Theorems
pub mod RangeLaws
pub mod BoundLaws
pub mod VerdictLaws
pub mod ExchangeLaws
