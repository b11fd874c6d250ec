-- What the run program prints.
pub mod InnerPage
pub mod Listed
