-- By subject: indices, events as bytes, places, puts, unread records, and bytes that no driver knows.
pub mod Index
pub mod Event
pub mod Events
pub mod Place
pub mod Put
pub mod PutAll
pub mod Remains
pub mod Packet
pub mod Unread
pub mod Unknown
pub mod PutFrom
