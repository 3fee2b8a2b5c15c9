pub mod Converting
pub mod Copying
pub mod Rescuing
pub mod MakingLemmas
pub mod Putting
