pub mod Tables
pub mod Codes
pub mod Counters
pub mod Schedule
