-- Laws of the rigid body.
pub mod Mirror
