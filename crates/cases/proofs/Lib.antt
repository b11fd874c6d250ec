-- The worked cases hold.
pub mod Cases
pub mod Forecasts
pub mod Overflows
pub mod LongTransactions
pub mod Rules
pub mod Staleness
pub mod Refusals
pub mod Formulas
pub mod Exchanges
pub mod Calls
