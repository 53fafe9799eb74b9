-- Laws of the airframe block.
pub mod Segments
pub mod Small
pub mod Order
pub mod Reading
