pub mod CountMeaning
pub mod Emptiness
pub mod Parts
pub mod FoundFiles
pub mod EntryPaths
pub mod FoundDirectory
pub mod Children
pub mod Judged
pub mod Looked
pub mod FirstNames
pub mod Tallies
pub mod Takings
pub mod Witness
pub mod AddedFlaws
mod FlawTrees
mod FlawlessTrees
