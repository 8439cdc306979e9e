pub mod MarkList
pub mod Shapes
pub mod Places
pub mod Held
