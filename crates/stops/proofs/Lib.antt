pub mod HeldRuns
pub mod Runs
