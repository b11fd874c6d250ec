-- What the contracts of `job` cite.
pub mod Answer
pub mod InnerScan
