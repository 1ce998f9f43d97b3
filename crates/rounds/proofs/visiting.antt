pub mod Room
pub mod VisitLaws
pub mod VisitOutcomes
