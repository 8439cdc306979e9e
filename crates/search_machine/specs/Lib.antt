pub mod Layout
pub mod Nodes
pub mod Outlines
pub mod Shows
pub mod Moves
pub mod Begun
pub mod Popping
pub mod Step
