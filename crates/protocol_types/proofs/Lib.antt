pub mod Laws
pub mod Refusals
pub mod Board
pub mod Rows
pub mod Search
pub mod Conditions
