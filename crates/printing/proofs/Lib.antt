-- Why a listing tells what it does.
pub mod FirstBytes
pub mod Printed
pub mod Spelling
pub mod Lines
pub mod Prints
pub mod Outputs
