-- What the contracts of `text` cite: texts as lists of bytes, and what their digits and letters spell.
pub mod Texts
