-- What follows from the definitions: the laws of who hears of faults.
pub mod FaultLines
