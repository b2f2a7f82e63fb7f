pub mod Input
pub mod Decimal
pub mod CoverageText
pub mod Prints
pub mod BookFront
pub mod ListingFront
