pub mod Track
pub mod Held
pub mod Kept
pub mod Session
pub mod Telling
pub mod Refusal
pub mod Lemmas
