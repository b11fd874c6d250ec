-- The modules of proofs that belong to no one function.
pub mod Lists
pub mod Nodes
pub mod Emits
pub mod Whole
