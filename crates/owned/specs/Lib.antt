-- What a call on an owned state comes to.
pub mod Owned
