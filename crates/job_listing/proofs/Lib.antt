pub mod ListedLaws
pub mod RoomLaws
