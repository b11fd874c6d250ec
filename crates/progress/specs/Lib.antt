-- Mirrors of what is done by value around a pick.
pub mod InnerProgress
