-- What a listing tells, and that no call alters its output behind its result.
pub mod Printing
pub mod Outputs
