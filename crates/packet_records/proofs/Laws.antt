-- By subject: how many records a packet takes.
pub mod Put
