-- What the contracts of `forecast` cite.
pub mod Figures
pub mod InnerWalk
