-- What follows from the definitions: the lemmas that the proofs of this crate and of those above it
-- use.
pub mod Words
pub mod Steps
pub mod Log
pub mod Super
pub mod Verdict
pub mod Faults
pub mod Runs
pub mod Recovery
pub mod Counts
pub mod Soundness
pub mod Names
pub mod Frames
pub mod OutsideLog
pub mod Bits
pub mod FileNumbers
pub mod Codecs
pub mod Inodes
pub mod MadeImages
pub mod Wholes
pub mod Bytes
pub mod Replies
