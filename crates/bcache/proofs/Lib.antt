pub mod OrderLemmas
pub mod SlotLemmas
pub mod NextLemmas
pub mod LinkLemmas
mod EntryLemmas
