pub mod Answer
pub mod Code
pub mod CorrectionTheorem
pub mod Nearest
pub mod Places
pub mod Tried
