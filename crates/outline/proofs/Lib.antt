pub mod OutlineLaws
pub mod FieldLaws
pub mod AroundLaws
pub mod BuiltLaws
pub mod HeldLaws
pub mod TagLaws
pub mod PutLaws
pub mod WholeLaws
