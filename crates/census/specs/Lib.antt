pub mod Choices
pub mod Sorts
pub mod Counting
pub mod Shares
pub mod Claims
