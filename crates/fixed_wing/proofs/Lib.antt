-- Laws of the falloff.
pub mod Mirror
