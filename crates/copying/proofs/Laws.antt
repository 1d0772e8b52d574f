-- By subject: a stretch replaced, one that a loop has yet to write, and stretches that agree.
pub mod Overwrite
pub mod Remains
pub mod Agree
