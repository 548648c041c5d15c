pub mod Best
pub mod Claims
