-- Laws of tests in a row.
pub mod Ordered
