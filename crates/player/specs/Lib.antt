pub mod Afterwards
pub mod Turns
pub mod Stepping
pub mod Told
pub mod Opening
pub mod Refusals
pub mod Disks
