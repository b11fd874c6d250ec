-- What the contract of `op_at` cites.
pub mod Shown
