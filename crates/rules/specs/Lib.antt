pub mod Meaning
pub mod Files
pub mod Timers
pub mod Lines
pub mod Refusals
pub mod Kinds
pub mod Calls
pub mod OneFile
