-- Air density by height. Definitions only.
pub mod Promises
pub mod Density
