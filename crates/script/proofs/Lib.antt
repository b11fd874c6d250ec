-- The theorems about scripts.
pub mod Numbers
pub mod Nodes
pub mod Reading
pub mod Long
pub mod Accepts
pub mod Refuses
pub mod Transactions
pub mod Same
pub mod Soups
pub mod Turns
pub mod Overflows
pub mod Prefix
