pub mod Dispatch
mod Disks
