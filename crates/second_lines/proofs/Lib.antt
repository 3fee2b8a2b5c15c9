pub mod BeginningLemmas
pub mod QuotingLemmas
