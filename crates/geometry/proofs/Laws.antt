-- By subject: facts of an allowed geometry, slots, products that fit, and sizes that are powers of two.
pub mod Allowed
pub mod Slots
pub mod Products
pub mod Powers
