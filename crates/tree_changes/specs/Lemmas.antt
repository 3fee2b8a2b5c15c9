-- What follows from the definitions, for the crates above.
pub mod Lefts
