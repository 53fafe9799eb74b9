-- Laws of texts on a page, and of what stands before the ticks.
pub mod Openings
pub mod Texts
pub mod Numbers
pub mod Theorem
