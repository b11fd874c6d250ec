-- The laws that the proofs of `decompiler` cite.
pub mod Next
pub mod Follow
pub mod Turns
pub mod Whole
pub mod Answers
