pub mod Held
pub mod Resumed
