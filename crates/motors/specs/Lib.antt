-- The motors. Definitions only.
pub mod Motor
pub mod Reflection
pub mod Running
