pub mod Leading
pub mod Parsing
pub mod Splitting
pub mod Bytes
