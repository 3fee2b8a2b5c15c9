pub mod Backlogs
pub mod Called
pub mod Pairs
