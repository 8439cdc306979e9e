pub mod Space
pub mod NodeActs
pub mod Leaves
pub mod Walks
