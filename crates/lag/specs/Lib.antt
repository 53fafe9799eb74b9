-- First-order lag. Definitions only.
pub mod Lag
