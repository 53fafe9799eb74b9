-- What the lines' text says, the ticks behind them, what a program is asked to read, and what stands before the ticks.
pub mod Asked
pub mod Glyph
pub mod TickLog
pub mod Opening
pub mod Text
pub mod Page
pub mod Compare
pub mod Tracks
pub mod InParts
pub mod Verdict
pub mod Summary
