pub mod Complete
pub mod Sound
pub mod Exact
pub mod Places
pub mod Prints
pub mod Values
