pub mod Pages
pub mod Following
pub mod Answers
pub mod Enough
pub mod Progress
pub mod SameLines
