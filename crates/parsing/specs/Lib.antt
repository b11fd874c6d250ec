-- What the functions that read a formula hand on, and what they promise.
pub mod InnerParsing
