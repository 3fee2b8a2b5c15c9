-- What follows from the definitions: the lemmas that the proofs of this crate and of those above it
-- use.
pub mod Judged
pub mod Taking
pub mod Checked
