pub mod Report
pub mod Plan
pub mod Does
