-- By subject: calling another function, the frame with its locals, a struct behind a borrow, a part of it, and parameters by their kinds.
pub mod Callee
pub mod Frame
pub mod Lent
pub mod Parameters
pub mod Part
