-- What the contracts of `memory` cite.
pub mod Memories
