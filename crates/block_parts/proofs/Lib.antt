-- Laws of what blocks of bytes are made of.
pub mod Writing
pub mod RoundTrip
