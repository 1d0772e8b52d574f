pub mod Codes
pub mod Event
pub mod Packet
pub mod Ring
pub mod Put
pub mod Unread
pub mod Index
