pub mod Places
pub mod Fates
pub mod Aside
