-- Laws of the lift rotors.
pub mod Mirror
