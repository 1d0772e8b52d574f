-- By subject: the loop over the events, the ways out of a packet, that each keeps the rules, and what each may change.
pub mod Offer
pub mod Rule
pub mod Put
pub mod Keeps
pub mod Changes
