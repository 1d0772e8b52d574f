pub mod Revision
pub mod Setters
pub mod State
pub mod Call
pub mod Room
pub mod Result
