pub mod Layout
pub mod Acts
pub mod Walks
pub mod Checks
