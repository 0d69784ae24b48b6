-- The page's sections "Solids and their faces", "The cut" and "Elements that fit", in this order.
pub mod Solids
pub mod Rotations
pub mod Cut
pub mod Reference
pub mod Rows
pub mod Samples
pub mod Fit
pub mod Surface
pub mod Listings
