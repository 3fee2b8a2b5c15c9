-- What the proofs of the crates above use.
pub mod Workers
