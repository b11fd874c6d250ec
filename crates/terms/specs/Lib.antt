-- Refusals and kinds in the papers' numbers.
pub mod Numbers
