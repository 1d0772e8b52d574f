pub mod Step
pub mod Groups
