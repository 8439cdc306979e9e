pub mod Spelling
pub mod Stack
pub mod Writing
