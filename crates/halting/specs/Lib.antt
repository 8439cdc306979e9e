pub mod Halted
pub mod Again
pub mod SavedBytes
pub mod GoOn
pub mod Finish
