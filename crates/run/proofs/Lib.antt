-- Laws of runs.
pub mod Loop
pub mod Calls
pub mod Mirror
pub mod Kept
