pub mod Key
pub mod Drawing
pub mod Refusal
