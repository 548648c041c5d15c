pub mod Decoding
pub mod Whole
