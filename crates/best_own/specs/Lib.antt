pub mod Own
pub mod Written
