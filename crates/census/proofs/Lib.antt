pub mod ForEachLaws
pub mod ChoiceLaws
pub mod EndingLaws
pub mod SortLaws
pub mod CensusLaws
