pub mod Delivers
pub mod Places
