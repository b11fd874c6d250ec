-- The laws of `word` that belong to no one function: sums of 32 bits, sums of counts, and sets of registers. Assumes nothing.
pub mod Sums
pub mod Sets
pub mod Listed
pub mod Counting
