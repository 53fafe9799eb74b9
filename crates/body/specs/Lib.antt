-- The rigid body. Definitions only.
pub mod Motion
pub mod Reflection
