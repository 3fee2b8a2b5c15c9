pub mod PlacesLemmas
pub mod FilesLemmas
pub mod ReplayLemmas
