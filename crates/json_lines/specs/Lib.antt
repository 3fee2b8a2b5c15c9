pub mod Fields
pub mod Arrays
pub mod Blocks
pub mod Steps
pub mod Events
pub mod Counts
pub mod Faults
pub mod Lemmas
