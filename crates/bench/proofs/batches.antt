pub mod FillLaws
pub mod BatchLaws
