-- By subject: the state's rules and what keeps them, the revision, what is known of a call, room for records, and what a call leaves.
pub mod Rules
pub mod Revision
pub mod Call
pub mod Room
pub mod Result
