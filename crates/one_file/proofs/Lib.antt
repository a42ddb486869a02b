pub mod Laws
pub mod Alone
