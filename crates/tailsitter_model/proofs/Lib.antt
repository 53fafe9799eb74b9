-- Laws of the wash.
pub mod Mirror
