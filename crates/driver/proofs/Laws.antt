-- By subject: the number that is told, the oldest record, the ways out of a step, and bytes that no driver knows.
pub mod Answer
pub mod Step
pub mod Unknown
