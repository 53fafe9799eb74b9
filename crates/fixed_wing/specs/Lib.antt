-- The airplane's parameters. Definitions only.
pub mod Falloff
