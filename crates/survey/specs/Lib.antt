-- What the contracts of `survey` cite.
pub mod InnerRecords
pub mod InnerWalk
