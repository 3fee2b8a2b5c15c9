pub mod CauseLemmas
pub mod OwnedLemmas
pub mod PlaceLemmas
pub mod SignLemmas
pub mod TextLemmas
pub mod FileLemmas
pub mod LogLemmas
