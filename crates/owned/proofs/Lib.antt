-- Why the calls on an owned state do what their contracts say.
pub mod First
pub mod Freshly
