pub mod Bits
pub mod ChoiceLemmas
pub mod Recovered
