pub mod Checks
pub mod Holding
pub mod Trials
pub mod Tried
