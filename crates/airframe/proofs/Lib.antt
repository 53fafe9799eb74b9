-- Laws of the airframe.
pub mod Range
pub mod Mirror
pub mod Parts
pub mod RoundTrip
pub mod Part
