-- By subject: a packet read event by event, while it is plain, and what that tells; and what is known of a packet with a form.
pub mod Scan
pub mod Plain
pub mod Axes
pub mod Read
pub mod Form
