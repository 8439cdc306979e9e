pub mod ArityLaws
pub mod RoundLaws
pub mod FillLaws
