pub mod World
pub mod Log
pub mod Received
pub mod Sent
pub mod Pending
pub mod Premises
pub mod Demand3
