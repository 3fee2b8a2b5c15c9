pub mod Shown
mod Arrayed
mod Checked
