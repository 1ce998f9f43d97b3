pub mod Clamping
pub mod KindLaws
pub mod Changing
pub mod StepLaws
pub mod BatchLaws
pub mod AnswersLaws
pub mod RunLaws
