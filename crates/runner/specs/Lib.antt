pub mod Causes
pub mod Refusals
pub mod Reports
pub mod Running
pub mod Sessions
