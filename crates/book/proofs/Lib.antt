-- Laws of the book's equations in exact numbers.
pub mod Algebra
pub mod Rationals
pub mod Exact
