pub mod Shows
pub mod Popping
pub mod Begun
pub mod Step
