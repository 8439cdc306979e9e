pub mod RunLaws
pub mod JobLaws
pub mod LastLaws
pub mod EntryLaws
