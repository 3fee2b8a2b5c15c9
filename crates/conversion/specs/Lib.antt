pub mod Older
pub mod Moving
pub mod Converted
pub mod OlderSound
pub mod Shortened
pub mod Prepared
pub mod Common
