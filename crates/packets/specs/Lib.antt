pub mod Packet
pub mod Revision
pub mod Rule
