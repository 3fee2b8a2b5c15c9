-- What follows from the definitions, for who shares a kernel.
pub mod Sharing
