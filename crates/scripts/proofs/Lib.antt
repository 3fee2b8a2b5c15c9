pub mod FieldLemmas
pub mod LineLemmas
pub mod NumberLemmas
pub mod OperationLemmas
pub mod ProcessLemmas
pub mod Reading
pub mod ScheduleLemmas
pub mod Walk
