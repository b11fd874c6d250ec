-- What the contracts of `decompiler` cite.
pub mod InnerParts
pub mod InnerState
pub mod InnerWalk
pub mod ReadBackTo
pub mod Opcodes
