pub mod Rows
pub mod ResultLaws
mod HeaderCases
pub mod HeaderLaws
pub mod Lengths
pub mod GoalsLaws
pub mod TermTags
pub mod TableTags
pub mod ReadLaw
pub mod StandsLaws
pub mod CountLaws
mod CountingLaws
pub mod FieldBytes
pub mod Encoded
pub mod Complete
pub mod Decoded
pub mod RefusedPlace
pub mod GoalBytes
pub mod TermBytes
pub mod GoalsAt
pub mod ByTag
pub mod GoalListBytes
pub mod EncodedBytes
