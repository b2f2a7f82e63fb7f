pub mod Hex
pub mod Leading
pub mod Lines
pub mod Lists
pub mod Part
pub mod Passing
pub mod Search
