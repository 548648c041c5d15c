pub mod Refused
pub mod Passed
pub mod Instances
