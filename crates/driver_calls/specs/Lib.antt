pub mod Told
pub mod Entry
