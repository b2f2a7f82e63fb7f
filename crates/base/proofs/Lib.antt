pub mod Bools
pub mod LeadingLaws
pub mod HexLaws
pub mod LinesLaws
pub mod ListLaws
pub mod PassingLaws
pub mod SearchLaws
pub mod CountLaws
