pub mod VisitMeets
