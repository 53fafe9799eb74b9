-- Laws of the surfaces.
pub mod Range
pub mod Mirror
