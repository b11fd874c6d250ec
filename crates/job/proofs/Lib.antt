-- Why the reader's loop follows `read_nodes`, and finds the first long transaction.
pub mod KindBytes
pub mod Tests
pub mod Walk
pub mod Long
pub mod Header
