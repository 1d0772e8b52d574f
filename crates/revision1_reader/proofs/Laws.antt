-- By subject: the ways out of a step, bytes that no reader knows, and the group of a packet as a reader finds it.
pub mod Step
pub mod Unknown
pub mod Group
