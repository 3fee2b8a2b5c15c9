-- What follows from the definitions.
pub mod Held
pub mod Ledgers
