-- What follows from the definitions, for the crates above.
pub mod Sizes
pub mod Reaching
pub mod Unshown
pub mod Entries
pub mod Making
pub mod Both
pub mod Room
pub mod Creations
pub mod After
