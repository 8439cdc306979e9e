pub mod Layout
pub mod Arities
pub mod Rounds
