pub mod Cases
pub mod PartLaws
pub mod FieldLaws
