-- What the contracts of `engine` cite.
pub mod InnerEngine
