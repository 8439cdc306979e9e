pub mod AmongLaws
pub mod DifferentLaws
pub mod SizeLaws
pub mod BitLaws
pub mod SetLaws
pub mod EmptyLaws
pub mod PutLaws
pub mod SetKept
