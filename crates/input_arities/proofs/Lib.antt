pub mod ArityLaws
pub mod ThreadLaws
pub mod ListLaws
pub mod ProofLaws
