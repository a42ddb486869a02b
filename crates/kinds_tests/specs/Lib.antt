pub mod Leftovers
pub mod Timing
