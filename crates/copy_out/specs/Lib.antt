pub mod CopyOut
