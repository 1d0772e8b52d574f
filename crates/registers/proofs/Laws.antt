-- By subject: the ways out of a read and of a write, and what a write keeps.
pub mod Read
pub mod Write
pub mod Keeps
