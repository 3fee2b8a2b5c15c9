pub mod Backlogs
pub mod Feeders
pub mod Clients
pub mod Lemmas
