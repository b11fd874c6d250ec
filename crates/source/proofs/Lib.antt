-- Picks agree with the source's machine.
pub mod Rules
pub mod Carryings
pub mod Soups
pub mod Agrees
pub mod Named
