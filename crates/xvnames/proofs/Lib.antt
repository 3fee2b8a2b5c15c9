mod Added
mod Fits
mod Stopped
