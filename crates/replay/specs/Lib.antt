-- What the lists' text says: words of eight hex digits.
pub mod Words
