pub mod StartLaws
pub mod PieceLaws
pub mod PartLaws
pub mod LengthLaws
pub mod BatchLaws
pub mod ListedLaws
pub mod BoundLaws
pub mod CallLaws
