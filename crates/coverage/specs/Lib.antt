pub mod Tally
pub mod Report
pub mod Rates
pub mod Month
pub mod Agrees
pub mod Progress
