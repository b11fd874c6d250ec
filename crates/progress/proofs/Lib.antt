-- Why the functions do what their mirrors say.
pub mod Refusals
pub mod Performs
pub mod Turns
pub mod Drives
pub mod Calls
