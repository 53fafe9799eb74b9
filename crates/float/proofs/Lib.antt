-- Laws of 32-bit floats that belong to no one function.
pub mod Sign
pub mod Zeros
pub mod Order
pub mod Rounding
pub mod Exact
pub mod HalfUnit
pub mod Interval
pub mod Sizes
pub mod Truncation
pub mod Lists
pub mod Tests
pub mod Mirror
pub mod Equal
pub mod Patterns
pub mod Integers
pub mod Differences
pub mod Bounds
pub mod Representable
mod FourBytes
mod Magnitude
