-- Laws of the tick.
pub mod Passed
pub mod Running
pub mod Range
pub mod Wind
pub mod Mirror
pub mod Steps
pub mod Pulls
pub mod Scales
pub mod Shares
pub mod Lift
pub mod Height
pub mod Base
