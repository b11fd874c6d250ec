-- The theorems about stack code.
pub mod Flat
pub mod Ops
pub mod ReadBack
pub mod Lengths
pub mod Foreign
pub mod Heights
pub mod Texts
pub mod Scans
