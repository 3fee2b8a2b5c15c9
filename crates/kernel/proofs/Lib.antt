pub mod Pairing
pub mod Valid
pub mod LogCalls
pub mod TaskSteps
mod Bounds
pub mod Committing
pub mod Answering
pub mod Ports
pub mod Around
pub mod Right
pub mod Beginnings
pub mod Working
pub mod Well
pub mod Closing
pub mod Acting
pub mod Events
pub mod Promising
pub mod Since
pub mod Turns
pub mod Turned
pub mod Causes
pub mod ShortCauses
pub mod AtOpening
pub mod Openings
mod Counts
mod UnderWay
mod Lasting
mod Resting
mod Awaking
mod Begun
mod Rounds
mod Flushed
mod DeedsDone
mod Recovered
