-- Why the loop counts the figures of the tree.
pub mod Fold
pub mod Walk
pub mod Answers
