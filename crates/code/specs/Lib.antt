-- Stack code: the source's instructions and compiler, the code's bytes, foreign code, and reading back.
pub mod Compile
pub mod Bytes
pub mod Counts
pub mod Ops
pub mod Reader
pub mod InnerParts
pub mod InnerScan
pub mod InnerHeights
pub mod InnerLengths
