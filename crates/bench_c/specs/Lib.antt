-- What the library's calls give. Definitions only.
pub mod Library
pub mod Promises
