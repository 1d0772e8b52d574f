-- By subject: how long a number's text is, numbers in decimal, and texts that follow one another.
pub mod Digits
pub mod Decimal
pub mod Written
