pub mod Scripts
pub mod Bounds
pub mod Parts
pub mod Listed
pub mod Endings
pub mod Batches
pub mod Turns
