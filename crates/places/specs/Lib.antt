-- What only the tables of the code want.
pub mod PlaceLoops
