pub mod Answer
pub mod Step
pub mod Pages
pub mod EveryStep
pub mod OneWord
pub mod Start
pub mod Stepping
