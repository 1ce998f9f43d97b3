pub mod RowLaws
pub mod SpelledLaws
