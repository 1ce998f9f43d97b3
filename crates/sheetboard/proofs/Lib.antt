pub mod OutputLaws
pub mod WholeLaws
