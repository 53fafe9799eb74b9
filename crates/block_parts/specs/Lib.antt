-- What blocks of bytes are made of. Definitions only.
pub mod Parts
