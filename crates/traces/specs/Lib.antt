-- What a run shows pick by pick, and whose code each thread runs.
pub mod Traces
pub mod OwnCodes
