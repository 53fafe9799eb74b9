-- The props' slipstream. Definitions only.
pub mod Slipstream
