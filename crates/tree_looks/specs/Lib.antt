pub mod Tellings
pub mod Objects
pub mod Listing
pub mod Flaws
pub mod Looks
pub mod Gets
pub mod Copies
