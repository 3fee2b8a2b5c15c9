pub mod Copied
pub mod Words
pub mod Lemmas
