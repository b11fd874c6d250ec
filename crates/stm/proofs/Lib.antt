-- Theorems of the machine with logs.
pub mod Counts
pub mod Rules
pub mod Codes
pub mod Logs
pub mod Sizes
pub mod Opens
pub mod Sound
pub mod Complete
pub mod SentBack
pub mod Bound
pub mod Exact
