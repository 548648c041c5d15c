pub mod Found
pub mod Lent
