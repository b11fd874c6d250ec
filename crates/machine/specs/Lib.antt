-- The machine of document 01, "One pick, one step".
pub mod Steps
pub mod InnerTally
pub mod InnerTurn
pub mod Fits
pub mod FitTest
pub mod Answers
pub mod Written
pub mod Exchange
pub mod Stands
pub mod InnerStands
