pub mod Teller
pub mod Sessions
