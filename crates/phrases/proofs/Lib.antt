pub mod Phrases
pub mod Found
pub mod Front
