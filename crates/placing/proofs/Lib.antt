pub mod Stores
pub mod WriteLaws
