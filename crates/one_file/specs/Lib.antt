pub mod Tickets
pub mod Calls
pub mod Alone
