pub mod Entry
pub mod Expiry
