pub mod History
pub mod PlainHerald
pub mod Lanes
pub mod Queues
pub mod Lemmas
pub mod Common
