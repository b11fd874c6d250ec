-- Events is what a pick does and what is counted of it, Rules which machine rule it used. The rest is a machine that only the proofs speak of.
pub mod Events
pub mod Rules
pub mod Counted
pub mod InnerCells
pub mod InnerTasks
pub mod InnerMeaning
