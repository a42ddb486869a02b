pub mod Reading
pub mod Lines
mod Files
mod Unique
