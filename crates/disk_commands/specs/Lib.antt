pub mod Causes
pub mod Showing
pub mod Refusals
pub mod Looks
pub mod FaultLines
pub mod Lemmas
