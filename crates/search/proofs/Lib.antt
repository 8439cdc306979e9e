pub mod EventLaws
pub mod TraceEvaluates
pub mod SearchLaws
pub mod ListLaws
pub mod Refines
pub mod Bounds
pub mod Worked
