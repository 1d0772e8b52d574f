-- By subject: how many records a packet gives, and its buttons.
pub mod Count
pub mod Buttons
