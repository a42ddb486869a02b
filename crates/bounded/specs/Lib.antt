pub mod Push
pub mod Room
