-- The control surfaces. Definitions only.
pub mod Surface
