-- What the contracts of `word` cite: sums of two numbers of 32 bits and of two counts, and sets of registers.
pub mod Sum
pub mod Registers
pub mod InnerCount
