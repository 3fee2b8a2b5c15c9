mod Calls
mod Refusals
mod Steps
