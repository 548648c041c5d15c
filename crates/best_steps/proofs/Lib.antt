pub mod Asks
pub mod Checks
pub mod Entries
