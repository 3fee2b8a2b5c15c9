pub mod BlockLemmas
mod Kept
mod ForgetfulLemmas
mod LastLemmas
mod HeldLemmas
mod PlacedLemmas
mod TrapLemmas
