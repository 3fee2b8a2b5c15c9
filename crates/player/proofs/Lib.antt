pub mod Plays
pub mod Tells
pub mod Refused
pub mod Openings
pub mod Steps
pub mod Keeping
pub mod Seats
pub mod Owning
