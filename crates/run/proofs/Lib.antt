pub mod Loop
pub mod Instances
