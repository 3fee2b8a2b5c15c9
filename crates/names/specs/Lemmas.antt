-- What follows from the definitions, for the crates above.
pub mod NewImages
pub mod Over
pub mod Midst
pub mod Runs
