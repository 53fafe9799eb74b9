-- Laws of the air's density.
pub mod Mirror
pub mod Range
pub mod Rows
