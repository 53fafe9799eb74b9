-- Laws of the lent rows.
pub mod Walk
pub mod Forms
