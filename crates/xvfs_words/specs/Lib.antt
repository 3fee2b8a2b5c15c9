pub mod CommandLine
pub mod Lemmas
