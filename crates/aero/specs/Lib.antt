-- The aerodynamics of a fixed wing. Definitions only.
pub mod Coefficients
pub mod Wrench
pub mod Letters
pub mod Reflection
