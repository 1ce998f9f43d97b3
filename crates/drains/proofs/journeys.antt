pub mod WritingLaws
pub mod WayLaws
pub mod ListLaws
