-- Laws of the lag.
pub mod Range
