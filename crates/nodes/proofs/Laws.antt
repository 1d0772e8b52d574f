-- By subject: flags as texts, and a name given again.
pub mod Flags
pub mod Again
