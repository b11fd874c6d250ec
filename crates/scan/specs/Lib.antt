-- What the contracts of `scan` cite.
pub mod Answer
pub mod InnerView
