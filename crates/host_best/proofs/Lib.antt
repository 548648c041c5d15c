pub mod Lists
pub mod Refused
