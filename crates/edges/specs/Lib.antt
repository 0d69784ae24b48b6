-- Shapes that the private functions of edges want. The definition of an element's edge stands in solids/specs/Fit.antt.
pub mod EdgePlaces
