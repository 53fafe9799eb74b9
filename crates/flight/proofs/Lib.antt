-- Laws of the flight state.
pub mod Range
pub mod Inside
pub mod Mirror
