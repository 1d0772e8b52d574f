pub mod Entry
pub mod Lookup
pub mod Offer
pub mod QuickerOfferTest
