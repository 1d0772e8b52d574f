pub mod Hotplug
pub mod Add
pub mod Remove
