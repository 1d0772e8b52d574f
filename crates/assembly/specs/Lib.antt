pub mod Kind
pub mod Told
pub mod Transition
pub mod Collect
