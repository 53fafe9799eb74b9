-- What to believe of 32-bit floats: notation, bytes, intervals, and what it is to be the same number or the opposite one; and what the
-- code's promises name besides.
pub mod Notation
pub mod Bytes
pub mod Lists
pub mod Interval
pub mod Same
pub mod Promises
