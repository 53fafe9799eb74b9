-- Arrays of numbers. Definitions only.
pub mod Flight
pub mod Airframe
