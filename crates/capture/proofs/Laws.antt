-- By subject: lines, one and many of them; and the whole listing, with its two ways to end.
pub mod Lines
pub mod Listing
