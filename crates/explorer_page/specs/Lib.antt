pub mod Lines
pub mod Operations
pub mod Texts
pub mod Tried
pub mod Page
