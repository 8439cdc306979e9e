pub mod WordLaws
pub mod Copy
pub mod KeptLaws
pub mod BlankLaws
