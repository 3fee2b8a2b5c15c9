pub mod NamesBack
pub mod RequestsBack
