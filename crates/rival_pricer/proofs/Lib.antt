pub mod Instances
pub mod Loop
pub mod Start
