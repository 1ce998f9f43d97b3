-- One sheet: what the weights of one job rest on, without the counting rounds. In the order to read it.
pub mod Sheet
pub mod Sound
pub mod Depths
pub mod Steps
pub mod Touching
pub mod Lists
pub mod Finished
pub mod Drains
pub mod Longest
