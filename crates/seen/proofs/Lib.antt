pub mod ReadyLaws
pub mod SeenLaws
