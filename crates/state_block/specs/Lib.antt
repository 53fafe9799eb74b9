-- The state block. Definitions only.
pub mod Layout
