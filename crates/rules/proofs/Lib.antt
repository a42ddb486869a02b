pub mod Files
pub mod Timers
pub mod Lines
pub mod Refusals
pub mod OneFile
pub mod Drawing
pub mod Steps
