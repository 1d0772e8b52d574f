-- By subject: words written, read back, and apart from other bytes; the halves of a word of 64 bits.
pub mod Word
pub mod Halves
