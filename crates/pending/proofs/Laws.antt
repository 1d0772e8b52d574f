-- By subject: what a reader makes of records, and what is pending after each thing that can happen to a ring.
pub mod Runs
pub mod Pending
