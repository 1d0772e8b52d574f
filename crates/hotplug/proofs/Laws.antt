-- By subject: what is known of an accepted add or remove, the ways out of each, and that both keep the rules.
pub mod Accepted
pub mod Result
pub mod Rules
