-- What the proofs of this crate and of those above it use.
pub mod Counting
pub mod Faults
pub mod NewImages
