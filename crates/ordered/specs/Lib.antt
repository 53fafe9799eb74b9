-- Tests in a row.
pub mod Ordered
