pub mod Sendings
pub mod TransmissionLaws
pub mod Transmitted
pub mod Begun
pub mod Written
pub mod Planned
pub mod Prepared
pub mod ReportLaws
