-- What every finished run shows.
pub mod Along
pub mod Parts
pub mod Named
pub mod Visits
pub mod Shown
pub mod Ends
