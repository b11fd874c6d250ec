-- Scripts: trees, counts, limits, bytes, the job reader, the script's own meaning, and the source's rules.
pub mod Tree
pub mod Count
pub mod Limits
pub mod Bytes
pub mod Jobs
pub mod Outcome
pub mod Reader
pub mod Refusal
pub mod Turns
pub mod Source
pub mod Soup
pub mod Overflows
pub mod InnerKept
pub mod InnerTrees
