pub mod State
pub mod End
