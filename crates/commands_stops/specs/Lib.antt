pub mod Scripts
pub mod StopsDrawn
