-- The reference tick. Definitions only.
pub mod Loads
pub mod Tick
pub mod Reflection
pub mod Promises
