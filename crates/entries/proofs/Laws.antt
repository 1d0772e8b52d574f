-- By subject: lookups, stretches of the page lent for an entry, entries read back after a store, and which events an entry offers.
pub mod Lookup
pub mod Store
pub mod Back
pub mod Offer
mod Codes
pub mod QuickerOfferTest
