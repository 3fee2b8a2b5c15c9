pub mod Making
pub mod Unmade
pub mod Requests
pub mod Refusals
