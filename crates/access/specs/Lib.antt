pub mod Place
pub mod Access
