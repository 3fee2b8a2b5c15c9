pub mod AlongLemmas
