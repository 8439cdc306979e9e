pub mod Fields
pub mod Plan
pub mod Trees
pub mod Sizes
pub mod Leaves
pub mod Right
pub mod Left
