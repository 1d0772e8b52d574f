-- By subject: events as numbers and back, and numbers straight from bytes.
pub mod Numbers
pub mod Found
