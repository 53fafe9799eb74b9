-- The replies. Definitions only.
pub mod Answers
