pub mod Decimal
pub mod LineLaws
