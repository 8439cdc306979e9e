pub mod PartLaws
pub mod ReaderLaws
pub mod AskLaws
pub mod ToldLaws
