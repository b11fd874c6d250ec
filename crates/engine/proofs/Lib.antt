-- Why the engine's functions do what their mirrors say, and what the walks over lent records share.
pub mod Laying
pub mod Rows
pub mod Within
pub mod Picks
