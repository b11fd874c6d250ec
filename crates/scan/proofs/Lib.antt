-- Why the scan and its steps follow code/specs/InnerScan.antt.
pub mod Greater
pub mod Stack
pub mod Loops
pub mod Long
pub mod Whole
