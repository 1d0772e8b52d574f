-- By subject: bytes in pieces, reserved ones, the tables, what is judged of an event, and events there and back.
pub mod Pieces
pub mod Reserved
pub mod Lookup
pub mod Layout
pub mod Answer
pub mod Judged
pub mod Form
pub mod Encoded
pub mod Decoded
