pub mod Durable
pub mod Beginning
