pub mod Inside
pub mod Clearing
