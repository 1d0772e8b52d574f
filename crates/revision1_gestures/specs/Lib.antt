pub mod Gesture
pub mod Scan
pub mod Form
