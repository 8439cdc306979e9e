pub mod Layout
pub mod Seen
