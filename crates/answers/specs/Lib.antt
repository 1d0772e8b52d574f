pub mod Answers
pub mod Refusal
pub mod Refusals
