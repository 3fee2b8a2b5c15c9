mod Anyhow
mod Long
mod Gathered
