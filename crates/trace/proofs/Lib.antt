-- Laws of the tick block, and of traces of ticks.
pub mod Tick
pub mod Trace
pub mod Reflection
