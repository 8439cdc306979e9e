pub mod Different
pub mod Layout
pub mod Sets
