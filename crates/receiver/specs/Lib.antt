pub mod Bits
pub mod Stretches
pub mod Answers
pub mod Enough
pub mod NoBatch
pub mod Progress
