-- Runs, and demand 3. Definitions only.
pub mod Run
pub mod Calls
pub mod Mirrored
pub mod Promises
