pub mod Reading
pub mod Oldest
