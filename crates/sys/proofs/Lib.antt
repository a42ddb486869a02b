pub mod Lawful
pub mod Waits
pub mod Entries
pub mod Outcomes
pub mod Locality
pub mod Armed
pub mod Plain
pub mod PlainWait
