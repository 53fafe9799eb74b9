-- Laws of the aerodynamics.
pub mod Mirror
pub mod Range
pub mod Book
