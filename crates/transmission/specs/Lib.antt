pub mod Sending
pub mod Transmission
pub mod Report
pub mod Transmitted
pub mod Writing
