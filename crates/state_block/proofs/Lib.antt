-- Laws of the state block.
pub mod RoundTrip
pub mod Reading
