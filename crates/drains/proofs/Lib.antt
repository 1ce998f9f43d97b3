pub mod JoinLaws
pub mod CheckLaws
pub mod MeetLaws
