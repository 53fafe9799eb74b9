-- Laws of the replies.
pub mod Numbers
