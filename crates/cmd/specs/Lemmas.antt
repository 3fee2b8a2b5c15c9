-- What the proofs of the crates above use.
pub mod Disks
pub mod Sequences
