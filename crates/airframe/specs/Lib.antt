-- The airframe. Definitions only.
pub mod Numbers
pub mod FromNumbers
pub mod Acceptance
pub mod Reflection
pub mod Promises
