pub mod Lowest
pub mod Layers
