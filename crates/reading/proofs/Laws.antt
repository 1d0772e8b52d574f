-- By subject: what a reading call that is not refused knows, and the oldest record.
pub mod Reading
pub mod Oldest
