mod CatLemmas
pub mod Opened
pub mod Recording
pub mod Lines
pub mod Leaving
pub mod Keeping
pub mod Gathering
pub mod Walks
pub mod WholeRuns
