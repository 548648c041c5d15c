pub mod RivalSound
pub mod Coding
pub mod Entries
pub mod Schedules
pub mod SoFar
pub mod Cases
