-- What follows from the definitions: the lemmas that the proofs of this crate and of those above it
-- use.
pub mod Blocks
pub mod Moments
pub mod Held
pub mod Reads
pub mod Writes
