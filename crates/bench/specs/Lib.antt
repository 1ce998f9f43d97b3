pub mod Trees
pub mod Records
pub mod Counts
