pub mod Failures
pub mod Input
pub mod Output
pub mod Reads
