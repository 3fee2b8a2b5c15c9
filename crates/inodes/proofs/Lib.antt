pub mod LookLemmas
pub mod ReadLemmas
pub mod Frames
pub mod Present
mod TruncGot
mod Agreeing
mod Routes
mod WriteNodes
mod Gripping
mod InHand
mod LooksKept
mod TruncNext
mod TruncSlots
mod Truncating
mod TruncFiles
mod AtWork
mod TruncMakes
mod TruncSteps
mod Standing
mod MoreGets
mod Searching
mod SearchNow
mod StoreSteps
mod StoreKeeps
mod Shares
mod Looking
mod Getting
mod Taking
mod Starting
mod Turning
mod TakingSteps
mod Leaving
mod Reading
mod ReadingSteps
mod WriteComes
mod WriteFiles
mod WriteLogged
mod Writing
mod WriteMoves
mod WriteTakes
mod WriteAny
mod WriteBlocks
mod WriteEntries
mod WriteDoes
mod WriteEnds
mod Setting
mod Staying
mod TableNumbers
mod NoneFree
mod FreePlaces
mod KeptBlocks
mod GoesOn
mod GoingOn
pub mod Sleeping
