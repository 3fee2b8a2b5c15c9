pub mod Fields
pub mod Texts
pub mod Beginnings
pub mod Lines
pub mod Quoting
pub mod Addresses
