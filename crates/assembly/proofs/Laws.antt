-- By subject: which events are held after a record, and how many they are.
pub mod Collect
pub mod Held
