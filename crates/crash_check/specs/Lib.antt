pub mod Faults
pub mod Choices
pub mod Images
pub mod Lemmas
pub mod Mismatches
