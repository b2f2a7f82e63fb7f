pub mod BitLaws
pub mod StretchLaws
pub mod AddLaws
pub mod ReadLaws
pub mod SoFar
pub mod RoomLaws
pub mod NoBatch
