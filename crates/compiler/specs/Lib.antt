-- What the contracts of `compiler` cite.
pub mod CompileTo
pub mod InnerEmit
