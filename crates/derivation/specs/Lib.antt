pub mod Layout
pub mod Pending
pub mod Walks
pub mod CheckedEntries
