pub mod Errands
pub mod Events
pub mod Shown
