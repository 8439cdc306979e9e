pub mod Waiting
pub mod Reading
