pub mod Prints
pub mod Forests
