pub mod TestLaws
pub mod AnyLaws
pub mod RowLaws
pub mod SlotLaws
pub mod UnitLaws
