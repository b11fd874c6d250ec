-- What is promised of the whole. Demands is the front page; Rows, Histories and Agreement have what it speaks of, Values and ByType what
-- slices have by their types. Forecasts is document 02 No. 1, Notes the count of No. 2 among a thread's notes, LongTransactions No. 3,
-- Rules No. 4, Staleness No. 6, Formulas No. 7, Exchanges No. 8.
pub mod Demands
pub mod Rows
pub mod Histories
pub mod Agreement
pub mod Values
pub mod ByType
pub mod Forecasts
pub mod Notes
pub mod LongTransactions
pub mod Rules
pub mod Staleness
pub mod Formulas
pub mod Exchanges
