-- One subject: what a lookup leaves in the output.
pub mod Entry
