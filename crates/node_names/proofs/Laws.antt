-- By subject: two names compared, and a name looked up in a table.
pub mod Same
pub mod Table
