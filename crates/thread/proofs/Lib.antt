-- Why the methods do what their definitions say.
pub mod Loops
pub mod Commits
pub mod Attempts
