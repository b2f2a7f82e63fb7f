pub mod Listed
pub mod Enough
