pub mod Reserved
pub mod Decode
pub mod Form
