pub mod Position
pub mod Best
pub mod Cases
