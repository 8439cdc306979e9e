pub mod LeftLaws
pub mod Worked
pub mod WorkedHalts
pub mod SameGoals
pub mod ProofFiles
pub mod SavedStateLaws
pub mod SameBytes
pub mod HaltingLaws
