-- Laws about the definitions of specs/, in files of the same names. Bit, Word, Low and Copy are the crate's own: what the code does to one word.
pub mod Span
pub mod Next
pub mod Share
pub mod Count
pub mod Flat
mod Bit
mod Word
mod Low
pub mod Pack
mod Copy
