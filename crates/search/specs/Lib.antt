pub mod Events
pub mod Trace
pub mod Answer
pub mod EvaluatesWithin
pub mod Machine
pub mod Meaning
pub mod Held
pub mod Worked
