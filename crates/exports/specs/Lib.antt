-- Answers in numbers.
pub mod Written
