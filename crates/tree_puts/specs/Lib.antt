pub mod Anew
pub mod Puts
pub mod Refusals
pub mod Copies
pub mod Gathering
pub mod Folders
