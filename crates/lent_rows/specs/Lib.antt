-- The lent rows. Definitions only.
pub mod Mixing
