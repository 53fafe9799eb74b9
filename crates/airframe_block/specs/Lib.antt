-- The airframe block. Definitions only.
pub mod Block
