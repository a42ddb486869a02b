pub mod Standing
pub mod Outcomes
pub mod Reporting
pub mod Benching
pub mod Lining
