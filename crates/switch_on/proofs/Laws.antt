-- By subject: the taken slots, their records put one after the other, and the ways out of a switch-on.
pub mod Slots
pub mod Put
pub mod SwitchOn
