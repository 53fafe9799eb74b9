-- The proved cases. Definitions only.
pub mod Table
pub mod Wide
pub mod Wind
pub mod Shares
pub mod Lift
