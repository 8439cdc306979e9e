pub mod Memory
pub mod Numbers
pub mod Goals
pub mod Source
pub mod File
pub mod Entry
