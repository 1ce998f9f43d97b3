pub mod DelayLaws
