pub mod Regions
pub mod Notes
pub mod Ready
pub mod Waits
pub mod Asked
pub mod Cells
pub mod Noting
pub mod Walks
