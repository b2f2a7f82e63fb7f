pub mod Book
pub mod Found
pub mod Front
