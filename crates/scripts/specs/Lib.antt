pub mod Field
pub mod Number
pub mod Operation
pub mod Schedule
pub mod Script
pub mod Readers
