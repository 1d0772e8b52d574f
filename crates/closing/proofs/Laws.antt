-- What every answer to closing keeps to.
pub mod Fit
