-- Laws of the library.
pub mod Lengths
pub mod After
pub mod Prepared
pub mod Pair
pub mod Chain
