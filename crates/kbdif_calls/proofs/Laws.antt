-- By subject: the ways out of an encode and of a decode.
pub mod Encode
pub mod Decode
