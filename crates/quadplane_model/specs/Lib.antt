-- The lift rotors. Definitions only.
pub mod Lift
