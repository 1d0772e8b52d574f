-- By subject: where an offset lies, told from what stands there; what is known of an access that nothing refuses; where ACCELERATION
-- stands.
pub mod Place
pub mod Access
pub mod Acceleration
