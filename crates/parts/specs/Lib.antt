pub mod Reader
pub mod States
