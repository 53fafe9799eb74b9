-- Laws of the motors.
pub mod Range
pub mod Mirror
pub mod Pulls
pub mod Scales
pub mod Shares
pub mod Base
