-- What follows from the definitions, for the crates above.
pub mod Keeping
pub mod Recovered
pub mod Stopping
