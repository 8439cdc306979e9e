pub mod PendingLaws
pub mod EntryLaws
pub mod RuleLaws
pub mod UsedLaws
pub mod WalkLaws
pub mod CheckLaws
