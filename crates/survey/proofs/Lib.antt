-- Why the survey's functions do what their mirrors say, and why these decide `fits`.
pub mod Yes
pub mod Loops
pub mod Records
pub mod Steps
pub mod Walks
pub mod Judging
pub mod Shows
pub mod Asking
pub mod Judges
pub mod Exact
