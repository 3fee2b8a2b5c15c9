pub mod Stale
pub mod Device
pub mod Runs
pub mod Carried
pub mod Laws
pub mod Sessions
