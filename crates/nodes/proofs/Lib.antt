pub mod SpaceLaws
pub mod RowLaws
pub mod CellLaws
pub mod LeafLaws
pub mod WalkLaws
