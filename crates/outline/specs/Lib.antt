pub mod Outline
pub mod Layout
pub mod Memory
pub mod Built
pub mod Held
pub mod Whole
