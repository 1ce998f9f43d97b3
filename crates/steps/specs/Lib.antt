pub mod NoStep
pub mod Changing
pub mod StepMeets
pub mod RunMeets
pub mod AnswersOn
