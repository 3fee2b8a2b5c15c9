mod Clearing
mod Taking
