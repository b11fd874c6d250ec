-- The worked cases of document 01: "Slides for the bench", its figures, and a state that fits or does not for each sentence on fitting;
-- those of the forecast, of sums that leave the range, of long transactions, of the rules that move threads, of registers that commits wrote, of
-- each refusal, of formulas, of picks that may be exchanged, and of exported calls and owned states.
pub mod Inputs
pub mod Cases
pub mod Forecasts
pub mod Overflows
pub mod LongTransactions
pub mod Rules
pub mod Staleness
pub mod Refusals
pub mod Formulas
pub mod Exchanges
pub mod Calls
