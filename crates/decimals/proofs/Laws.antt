-- By subject: one byte more, the loop over a text, and that a text is read exactly where the rules of a number hold.
pub mod Step
pub mod Reading
pub mod Exact
pub mod Answer
