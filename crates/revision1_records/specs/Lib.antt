pub mod Flags
pub mod Records
