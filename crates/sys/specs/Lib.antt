pub mod Event
pub mod Timeout
pub mod Polling
pub mod Setting
pub mod World
pub mod Laws
pub mod Wait
