pub mod Fields
pub mod Requests
pub mod Spellings
pub mod Laws
pub mod Answers
