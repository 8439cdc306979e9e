pub mod Put
pub mod Gather
pub mod Waiting
pub mod Finished
pub mod Head
pub mod Last
pub mod Save
