pub mod RoomLaws
pub mod ReadLaws
