-- The flight state. Definitions only.
pub mod Envelope
pub mod Reflection
pub mod State
