pub mod LineLaws
pub mod PlaceLaws
pub mod NumberLaws
pub mod PassLaws
pub mod JoinLaws
