pub mod Two
pub mod Tickets
pub mod Bell
pub mod Laws
