pub mod Register
pub mod Meaning
pub mod Places
pub mod Reports
pub mod Bench
pub mod Line
pub mod Waits
