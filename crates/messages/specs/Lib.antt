pub mod Answers
pub mod Digits
pub mod Telling
pub mod Output
pub mod Events
pub mod Deeds
pub mod Lemmas
pub mod Refusing
