pub mod Slots
pub mod Entries
pub mod Idles
