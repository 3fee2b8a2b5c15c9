pub mod Order
pub mod Links
pub mod Current
pub mod Buffers
pub mod Entries
pub mod Laws
pub mod Lemmas
pub mod Common
