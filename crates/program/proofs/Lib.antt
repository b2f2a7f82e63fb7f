pub mod PartLaws
pub mod RefusalLaws
pub mod CoverageLaws
pub mod PrintsLaws
pub mod BookFront
pub mod ListingFront
