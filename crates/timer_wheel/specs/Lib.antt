pub mod Entries
pub mod Wheel
pub mod Laws
