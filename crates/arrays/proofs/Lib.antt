-- Laws of rows.
pub mod RoundTrip
pub mod Numbers
