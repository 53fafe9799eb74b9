-- The tick block, and traces of ticks. Definitions only.
pub mod Tick
pub mod Trace
pub mod Reflection
