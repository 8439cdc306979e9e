pub mod JobLaws
pub mod EntryLaws
