pub mod Placement
pub mod Searching
pub mod Promise
pub mod Examples
