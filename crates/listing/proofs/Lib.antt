-- Why the page has what the definition says.
pub mod Jobs
pub mod Lines
pub mod Pages
pub mod Runs
