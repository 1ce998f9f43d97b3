pub mod Drains
pub mod Lines
