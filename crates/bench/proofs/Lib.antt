pub mod RecordLaws
pub mod WalkLaws
