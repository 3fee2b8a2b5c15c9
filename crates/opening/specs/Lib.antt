pub mod Openings
pub mod Recoveries
pub mod Lemmas
