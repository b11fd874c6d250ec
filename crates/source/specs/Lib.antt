-- The source's machine, and how the records of a state stand for its threads.
pub mod Source
pub mod Soup
