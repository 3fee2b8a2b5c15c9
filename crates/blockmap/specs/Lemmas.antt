-- What follows from the definitions: the lemmas that the proofs of this crate and of those above it
-- use.
pub mod Addresses
pub mod Bitmap
pub mod Branches
pub mod Leading
pub mod Others
pub mod Putting
pub mod Reading
pub mod Resting
pub mod Seeking
pub mod Targets
