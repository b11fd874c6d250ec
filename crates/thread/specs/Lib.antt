-- The thread record, and what each instruction makes of it.
pub mod Threads
pub mod Shown
pub mod InnerStep
