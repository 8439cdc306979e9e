pub mod OtherTerms
pub mod LeafLaws
pub mod ActLaws
pub mod StepLaws
pub mod SameGoals
pub mod DecideLaws
pub mod CheckLaws
