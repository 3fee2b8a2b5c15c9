pub mod CommandLines
pub mod Tables
pub mod TipLemmas
