pub mod EngineSchedule
pub mod Claims
