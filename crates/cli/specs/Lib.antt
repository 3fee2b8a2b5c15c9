pub mod Asking
pub mod CommandLine
pub mod Told
pub mod Topics
pub mod Table
pub mod Wrapping
pub mod Tips
pub mod Lemmas
