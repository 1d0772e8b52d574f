-- By subject: records copied by a loop and round the ring's end, the ways out of a call, and bytes that no driver knows.
pub mod CopyOut
pub mod CopyResult
pub mod Unknown
