pub mod Painting
pub mod Wanted
