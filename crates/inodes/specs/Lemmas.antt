-- What follows from the definitions: the lemmas that the proofs of this crate and of those above
-- it use.
pub mod Bounds
pub mod Looks
pub mod Faults
pub mod Freeing
pub mod Sought
pub mod StepEnds
pub mod Runs
pub mod WriteRuns
pub mod FullWrites
pub mod Causes
pub mod ReadRuns
pub mod Table
pub mod Grips
pub mod Holding
pub mod Unclaimed
pub mod StepsLeft
