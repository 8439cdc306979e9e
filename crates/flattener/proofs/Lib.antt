pub mod GrowthLaws
pub mod AgreeLaws
pub mod RemainingLaws
pub mod PrintLaws
pub mod PassLaws
pub mod ForestLaws
pub mod StartLaws
pub mod FlattenLaws
