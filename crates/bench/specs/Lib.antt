pub mod Answer
pub mod Written
pub mod Calls
pub mod Handlers
